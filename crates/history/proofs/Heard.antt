-- Reception with the payload so far in its state, instead of a count and a store: it reads a history as crate device does.
use mathlib.Core.Path.{◌≡◌, refl, ap, ap₂, ◌∙◌}
use mathlib.Core.Bool.{Bool, true, false, cond}
use mathlib.Core.List.{List, [], ◌∷◌, ◌++◌}
use Prim.Native.Nat.{ℕ, ◌+◌, ◌≤◌}
use native.Mathlib.Omega.{arith}
use native.Mathlib.Numerals.{add-one}
use lib.ListN.{length, take, set, length-set}
use lib.Seq.{length-take-le, take-suc-set}
use lib.Dec.{leb, eqb}
use borrow.Author.Tests.{leb-false}
use Rattle.reception.specs.declared.Reception.{Reception}
use Rattle.reception.specs.declared.Reception.TheVariants.{Idle, InData, After13h, FirstCheck, SecondCheck}
use Rattle.reception.specs.declared.Line.{Line}
use Rattle.reception.specs.declared.Told.TheVariants.{Payload}
use Rattle.reception.specs.declared.Took.{Took}
use Rattle.reception.specs.Reception.{line_of, idle, took_of, started, going_on, spoiled_in, placed, from_idle, from_data, from13h, taken, taken_in}
use Rattle.device.specs.Events.{Event}
use Rattle.device.specs.Events.Event.{byte, timeout, restart}
use Rattle.device.specs.Machine.{good_packet}
use Rattle.gathering.specs.Gathering.{placed_in}
use Rattle.history.specs.Text.{Item}
use Rattle.history.specs.Text.Item.{good, bad, can, nak}
use Rattle.history.specs.Ran.{Seen, items}
use Rattle.history.specs.Ran.Seen.{restarted}
use Rattle.history.specs.Reading.{told_items, items_at, read_from}

-- the five states, with the payload so far and whether the packet is spoiled
pub data Heard : Type 0 where
  outside : Heard
  in_data : List ℕ → Bool → Heard
  after13h : List ℕ → Bool → Heard
  first_check : List ℕ → Bool → Heard
  second_check : List ℕ → Bool → ℕ → Heard

-- a packet that has begun: unspoiled, with no payload
abbrev pub begun : Heard
begun = in_data [] false

-- a payload byte; past 2,048 it spoils the packet
unfoldable pub put : List ℕ → Bool → ℕ → Heard
put p s b = cond (leb 2048 (length p)) (in_data p true) (in_data (p ++ (b ∷ [])) s)

-- a byte in data
unfoldable pub next_data : List ℕ → Bool → ℕ → Heard
next_data p s b = cond (eqb b 0x16) begun (cond (eqb b 0x17) (first_check p s) (cond (eqb b 0x13) (after13h p s) (put p s b)))

-- a byte in data after 13h
unfoldable pub next13h : List ℕ → Bool → ℕ → Heard
next13h p s b =
    cond (eqb b 0x16) begun
    (cond (eqb b 0x17) (first_check p true)
    (cond (eqb b 0x33) (put p s 0x13)
    (cond (eqb b 0x36) (put p s 0x16)
    (cond (eqb b 0x37) (put p s 0x17)
    (in_data p true)))))

-- the state after a byte
unfoldable pub next : Heard → ℕ → Heard
next outside b = cond (eqb b 0x16) begun outside
next (in_data p s) b = next_data p s b
next (after13h p s) b = next13h p s b
next (first_check p s) b = second_check p s b
next (second_check p s a) b = outside

-- a complete packet
unfoldable pub judged_as : List ℕ → Bool → ℕ → ℕ → Item
judged_as p s a b = cond (good_packet s p a b) (good p) bad

-- what a byte completes
unfoldable pub heard_at : Heard → ℕ → List Item
heard_at outside b = cond (eqb b 0x18) (can ∷ []) (cond (eqb b 0x15) (nak ∷ []) [])
heard_at (in_data p s) b = []
heard_at (after13h p s) b = []
heard_at (first_check p s) b = []
heard_at (second_check p s a) b = judged_as p s a b ∷ []

-- what is read from a state on
unfoldable pub heard_from : Heard → List Event → List Seen
heard_from r [] = []
heard_from r (byte b ∷ h) = items (heard_at r b) ++ heard_from (next r b) h
heard_from r (timeout ∷ h) = heard_from outside h
heard_from r (restart ∷ h) = restarted ∷ heard_from outside h

-- ---- the two readings agree

-- a state of the line, with a payload
abbrev state_as : Reception → Bool → List ℕ → Heard
state_as Idle s p = outside
state_as InData s p = in_data p s
state_as After13h s p = after13h p s
state_as FirstCheck s p = first_check p s
state_as (SecondCheck a) s p = second_check p s a

-- a line and its store, as a state
abbrev heard_as : Line → List ℕ → Heard
heard_as line store = state_as line.state line.spoiled (take line.count store)

-- what a byte leaves of line and store is the state r, and the count stays within the store
record Follows (store : List ℕ) (took : Took) (r : Heard) : Type 0 where
  is : heard_as took.line (placed_in store took.told) ≡ r
  room : took.line.count ≤ 2048
  long : length (placed_in store took.told) ≡ 2048

module _ (store : List ℕ) (l : length store ≡ 2048) (c : ℕ) (h : c ≤ 2048) (s : Bool) where
  -- a payload byte
  placed_follows : (state : Reception) (b : ℕ) → Follows store (placed (line_of state s c) b) (put (take c store) s b)
  unfolding placed put
  placed_follows state b = rw (length-take-le c store (omega arith)) (cases (leb 2048 c) refl)
    where
      cases : (t : Bool) → leb 2048 c ≡ t
          → Follows store (cond t (spoiled_in (line_of state s c) InData) (took_of (line_of InData s (c + 1)) (Payload c b)))
          (cond t (in_data (take c store) true) (in_data (take c store ++ (b ∷ [])) s))
      cases true e = record { is = refl; room = h; long = l }
      cases false e =
          let k = leb-false 2048 c e in
          record {
            is = ap (λ (p : List ℕ). in_data p s) (ap (λ (n : ℕ). take n (set store c b)) (add-one c) ∙ take-suc-set store c b (omega arith));
            room = omega arith;
            long = length-set store c b ∙ l;
          }

  -- a byte in data
  data_follows : (b : ℕ) → Follows store (from_data (line_of InData s c) b) (next_data (take c store) s b)
  unfolding from_data next_data
  data_follows b = cases (eqb b 0x16) (eqb b 0x17) (eqb b 0x13)
    where
      cases : (t u v : Bool)
          → Follows store
          (cond t started (cond u (going_on (line_of InData s c) FirstCheck) (cond v (going_on (line_of InData s c) After13h) (placed (line_of InData s c) b))))
          (cond t begun (cond u (first_check (take c store) s) (cond v (after13h (take c store) s) (put (take c store) s b))))
      cases true u v = record { is = refl; room = omega arith; long = l }
      cases false true v = record { is = refl; room = h; long = l }
      cases false false true = record { is = refl; room = h; long = l }
      cases false false false = placed_follows InData b

  -- a byte after 13h
  pair_follows : (b : ℕ) → Follows store (from13h (line_of After13h s c) b) (next13h (take c store) s b)
  unfolding from13h next13h
  pair_follows b = cases (eqb b 0x16) (eqb b 0x17) (eqb b 0x33) (eqb b 0x36) (eqb b 0x37)
    where
      cases : (t u v w x : Bool)
          → Follows store
          (cond t started (cond u (spoiled_in (line_of After13h s c) FirstCheck)
          (cond v (placed (line_of After13h s c) 0x13) (cond w (placed (line_of After13h s c) 0x16) (cond x (placed (line_of After13h s c) 0x17) (spoiled_in (line_of After13h s c) InData))))))
          (cond t begun (cond u (first_check (take c store) true)
          (cond v (put (take c store) s 0x13) (cond w (put (take c store) s 0x16) (cond x (put (take c store) s 0x17) (in_data (take c store) true))))))
      cases true u v w x = record { is = refl; room = omega arith; long = l }
      cases false true v w x = record { is = refl; room = h; long = l }
      cases false false true w x = placed_follows After13h 0x13
      cases false false false true x = placed_follows After13h 0x16
      cases false false false false true = placed_follows After13h 0x17
      cases false false false false false = record { is = refl; room = h; long = l }

  -- a byte outside
  idle_follows : (b : ℕ) → Follows store (from_idle (line_of Idle s c) b) (cond (eqb b 0x16) begun outside)
  unfolding from_idle
  idle_follows b = cases (eqb b 0x16)
    where
      cases : (t : Bool) → Follows store (cond t started (going_on (line_of Idle s c) Idle)) (cond t begun outside)
      cases true = record { is = refl; room = omega arith; long = l }
      cases false = record { is = refl; room = h; long = l }

  -- a byte in any state
  follows : (state : Reception) (b : ℕ) → Follows store (taken_in state (line_of state s c) b) (next (state_as state s (take c store)) b)
  unfolding next
  follows Idle b = idle_follows b
  follows InData b = data_follows b
  follows After13h b = pair_follows b
  follows FirstCheck b = record { is = refl; room = h; long = l }
  follows (SecondCheck a) b = record { is = refl; room = omega arith; long = l }

-- a byte of an idle line, but for CAN and NAK, completes nothing
idle_told : (line : Line) (store : List ℕ) (b : ℕ) → told_items line store (from_idle line b).told ≡ []
unfolding from_idle
idle_told line store b = cases (eqb b 0x16)
  where
    cases : (t : Bool) → told_items line store (cond t started (going_on line Idle)).told ≡ []
    cases true = refl
    cases false = refl

-- a payload byte completes nothing
placed_told : (line l : Line) (store : List ℕ) (b : ℕ) → told_items l store (placed line b).told ≡ []
unfolding placed
placed_told line l store b = cases (leb 2048 line.count)
  where
    cases : (t : Bool) → told_items l store (cond t (spoiled_in line InData) (took_of (line_of InData line.spoiled (line.count + 1)) (Payload line.count b))).told ≡ []
    cases true = refl
    cases false = refl

-- a byte in data completes nothing
data_told : (line : Line) (store : List ℕ) (b : ℕ) → told_items line store (from_data line b).told ≡ []
unfolding from_data
data_told line store b = cases (eqb b 0x16) (eqb b 0x17) (eqb b 0x13)
  where
    cases : (t u v : Bool)
        → told_items line store (cond t started (cond u (going_on line FirstCheck) (cond v (going_on line After13h) (placed line b)))).told ≡ []
    cases true u v = refl
    cases false true v = refl
    cases false false true = refl
    cases false false false = placed_told line line store b

-- a byte after 13h completes nothing
pair_told : (line : Line) (store : List ℕ) (b : ℕ) → told_items line store (from13h line b).told ≡ []
unfolding from13h
pair_told line store b = cases (eqb b 0x16) (eqb b 0x17) (eqb b 0x33) (eqb b 0x36) (eqb b 0x37)
  where
    cases : (t u v w x : Bool)
        → told_items line store
        (cond t started (cond u (spoiled_in line FirstCheck) (cond v (placed line 0x13) (cond w (placed line 0x16) (cond x (placed line 0x17) (spoiled_in line InData)))))).told
        ≡ []
    cases true u v w x = refl
    cases false true v w x = refl
    cases false false true w x = placed_told line line store 0x13
    cases false false false true x = placed_told line line store 0x16
    cases false false false false true = placed_told line line store 0x17
    cases false false false false false = refl

-- a byte completes the same in both readings
same_items : (state : Reception) (s : Bool) (c : ℕ) (store : List ℕ) (b : ℕ)
    → items_at (line_of state s c) store b ≡ heard_at (state_as state s (take c store)) b
unfolding items_at heard_at taken judged_as
same_items Idle s c store b = ap (λ (t : List Item). cond (eqb b 0x18) (can ∷ []) (cond (eqb b 0x15) (nak ∷ []) t)) (idle_told (line_of Idle s c) store b)
same_items InData s c store b = data_told (line_of InData s c) store b
same_items After13h s c store b = pair_told (line_of After13h s c) store b
same_items FirstCheck s c store b = refl
same_items (SecondCheck a) s c store b = refl

-- both readings of a history, from any line whose count is within its store of 2,048 bytes
abbrev Agree : List Event → Type 0
Agree h = (line : Line) (store : List ℕ) → length store ≡ 2048 → line.count ≤ 2048 → read_from line store h ≡ heard_from (heard_as line store) h

-- one byte, and the rest
byte_agrees : (b : ℕ) (h : List Event) → Agree h → Agree (byte b ∷ h)
unfolding read_from heard_from taken
byte_agrees b h ih line store l k =
    let f = follows store l line.count k line.spoiled line.state b in
    ap₂ (λ (is : List Item) (t : List Seen). items is ++ t) (same_items line.state line.spoiled line.count store b)
    (ih (taken_in line.state line b).line (placed_in store (taken_in line.state line b).told) f.long f.room
    ∙ ap (λ (r : Heard). heard_from r h) f.is)

-- both readings find the same in a history
pub agree : (h : List Event) → Agree h
unfolding read_from heard_from
agree [] line store l k = refl
agree (byte b ∷ h) line store l k = byte_agrees b h (agree h) line store l k
agree (timeout ∷ h) line store l k = agree h idle store l (omega arith)
agree (restart ∷ h) line store l k = ap (λ (t : List Seen). restarted ∷ t) (agree h idle store l (omega arith))
