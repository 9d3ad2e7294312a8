-- A call of the machine gathers bytes up to one that is answered, and then answers that byte, if there is one.
use mathlib.Core.Path.{◌≡◌, refl, ap, ◌∙◌}
use mathlib.Core.Bool.{Bool, true, false, ◌&&◌, ◌||◌, cond, false≢true, true≢false}
use mathlib.Core.List.{List, [], ◌∷◌}
use Prim.Native.Nat.{ℕ, suc, ◌+◌}
use native.Mathlib.Omega.{arith}
use lib.Dec.{leb, ltb, eqb}
use borrow.Author.Tests.{eqb-true}
use Rattle.packet.specs.Packet.{packet_of}
use Rattle.reception.specs.declared.Reception.{Reception}
use Rattle.reception.specs.declared.Reception.TheVariants.{Idle, InData, After13h, FirstCheck, SecondCheck}
use Rattle.reception.specs.declared.Line.{Line}
use Rattle.reception.specs.declared.Told.TheVariants.{Payload}
use Rattle.reception.specs.declared.Took.{Took}
use Rattle.reception.specs.Reception.{line_of, took_of, started, going_on, spoiled_in, placed, from_idle, from_data, from13h, taken_in, taken}
use Rattle.device.specs.Machine.{Holding, Machine, Stepped, Called, on, silent, good_packet, runs, refuses, payload_of, completes, hears, cancels, again, takes, step, is_none, one_more, call}
use Rattle.device.specs.Machine.Holding.{nothing, holding}
use Rattle.gathering.specs.Gathering.{asks_in, placed_in, Got, got_as, gathered}

-- whether there is something to send again
abbrev pub can_send : Holding → Bool
can_send nothing = false
can_send (holding p n) = ltb n 3

-- the machine's call from what was gathered
abbrev pub called_by : Machine → Got → Called
called_by m g =
    cond g.asked
    (record {
      machine = (takes (on m g.line g.store) g.last).machine;
      taken = g.taken;
      reply = (takes (on m g.line g.store) g.last).reply;
    })
    (record { machine = on m g.line g.store; taken = g.taken; reply = [] })

-- ---- a byte that is not answered

module _ (m : Machine) (store : List ℕ) where
  -- what reception makes of it is kept, and nothing is said
  abbrev Quiet : Line → Took → Type 0
  Quiet line k = hears (on m line store) k.line k.told ≡ silent (on m k.line (placed_in store k.told))

  quiet_placed : (line : Line) (b : ℕ) → Quiet line (placed line b)
  unfolding placed
  quiet_placed line b = cases (leb 2048 line.count)
    where
      cases : (t : Bool) → Quiet line (cond t (spoiled_in line InData) (took_of (line_of InData line.spoiled (line.count + 1)) (Payload line.count b)))
      cases true = refl
      cases false = refl

  quiet_data : (line : Line) (b : ℕ) → Quiet line (from_data line b)
  unfolding from_data
  quiet_data line b = cases (eqb b 0x16) (eqb b 0x17) (eqb b 0x13)
    where
      cases : (x y z : Bool) → Quiet line (cond x started (cond y (going_on line FirstCheck) (cond z (going_on line After13h) (placed line b))))
      cases true y z = refl
      cases false true z = refl
      cases false false true = refl
      cases false false false = quiet_placed line b

  quiet_pair : (line : Line) (b : ℕ) → Quiet line (from13h line b)
  unfolding from13h
  quiet_pair line b = cases (eqb b 0x16) (eqb b 0x17) (eqb b 0x33) (eqb b 0x36) (eqb b 0x37)
    where
      cases : (v w x y z : Bool)
          → Quiet line (cond v started (cond w (spoiled_in line FirstCheck) (cond x (placed line 0x13) (cond y (placed line 0x16) (cond z (placed line 0x17) (spoiled_in line InData))))))
      cases true w x y z = refl
      cases false true x y z = refl
      cases false false true y z = quiet_placed line 0x13
      cases false false false true z = quiet_placed line 0x16
      cases false false false false true = quiet_placed line 0x17
      cases false false false false false = refl

  -- NAK with nothing to send again
  again_none : (line : Line) (h : Holding) → can_send h ≡ false → again (on m line store) h ≡ silent (on m line store)
  unfolding again
  again_none line nothing e = refl
  again_none line (holding p n) e = rw e refl

  -- between packets
  quiet_idle : (spoiled : Bool) (count : ℕ) (x y z : Bool) → (y ≡ true → z ≡ false) → (x || (y && can_send m.response)) ≡ false
      → cond x (cancels (on m (line_of Idle spoiled count) store))
      (cond y (again (on m (line_of Idle spoiled count) store) m.response)
      (hears (on m (line_of Idle spoiled count) store) (cond z started (going_on (line_of Idle spoiled count) Idle)).line (cond z started (going_on (line_of Idle spoiled count) Idle)).told))
      ≡ silent (on m (cond z started (going_on (line_of Idle spoiled count) Idle)).line (placed_in store (cond z started (going_on (line_of Idle spoiled count) Idle)).told))
  quiet_idle spoiled count true y z f e = absurd (true≢false e)
  quiet_idle spoiled count false true true f e = absurd (true≢false (f refl))
  quiet_idle spoiled count false true false f e = again_none (line_of Idle spoiled count) m.response e
  quiet_idle spoiled count false false true f e = refl
  quiet_idle spoiled count false false false f e = refl

  not_16h : (b : ℕ) → eqb b 0x15 ≡ true → eqb b 0x16 ≡ false
  not_16h b e = ap (λ (k : ℕ). eqb k 0x16) (eqb-true b 0x15 e)

  quiet_in : (r : Reception) (spoiled : Bool) (count : ℕ) (b : ℕ) → asks_in r (can_send m.response) b ≡ false
      → takes (on m (line_of r spoiled count) store) b
      ≡ silent (on m (taken_in r (line_of r spoiled count) b).line (placed_in store (taken_in r (line_of r spoiled count) b).told))
  unfolding takes taken from_idle
  quiet_in Idle spoiled count b e = quiet_idle spoiled count (eqb b 0x18) (eqb b 0x15) (eqb b 0x16) (not_16h b) e
  quiet_in InData spoiled count b e = quiet_data (line_of InData spoiled count) b
  quiet_in After13h spoiled count b e = quiet_pair (line_of After13h spoiled count) b
  quiet_in FirstCheck spoiled count b e = refl
  quiet_in (SecondCheck a) spoiled count b e = absurd (true≢false e)

  quiet : (line : Line) (b : ℕ) → asks_in line.state (can_send m.response) b ≡ false
      → takes (on m line store) b ≡ silent (on m (taken line b).line (placed_in store (taken line b).told))
  unfolding taken
  quiet line b e = quiet_in line.state line.spoiled line.count b e

  -- ---- a byte that is answered

  again_said_lem : (line : Line) (h : Holding) → can_send h ≡ true → is_none (again (on m line store) h).reply ≡ false
  unfolding again packet_of
  again_said_lem line nothing e = absurd (false≢true e)
  again_said_lem line (holding p n) e = rw e refl

  complete_said : (n : Machine) (a b : ℕ) → is_none (completes n a b).reply ≡ false
  unfolding completes runs
  complete_said n a b = cases (good_packet n.line.spoiled (payload_of n) a b)
    where
      cases : (t : Bool) → is_none (cond t (runs n (payload_of n)) (refuses n)).reply ≡ false
      cases true = refl
      cases false = refl

  said_idle : (line : Line) (x y : Bool) (rest : Stepped) → (x || (y && can_send m.response)) ≡ true
      → is_none (cond x (cancels (on m line store)) (cond y (again (on m line store) m.response) rest)).reply ≡ false
  said_idle line true y rest e = refl
  said_idle line false true rest e = again_said_lem line m.response e
  said_idle line false false rest e = absurd (false≢true e)

  said_in : (r : Reception) (spoiled : Bool) (count : ℕ) (b : ℕ) → asks_in r (can_send m.response) b ≡ true
      → is_none (takes (on m (line_of r spoiled count) store) b).reply ≡ false
  unfolding takes taken
  said_in Idle spoiled count b e = said_idle (line_of Idle spoiled count) (eqb b 0x18) (eqb b 0x15) _ e
  said_in InData spoiled count b e = absurd (false≢true e)
  said_in After13h spoiled count b e = absurd (false≢true e)
  said_in FirstCheck spoiled count b e = absurd (false≢true e)
  said_in (SecondCheck a) spoiled count b e = complete_said (on m (line_of (SecondCheck a) spoiled count) store) a b

  -- its reply is not empty
  said : (line : Line) (b : ℕ) → asks_in line.state (can_send m.response) b ≡ true → is_none (takes (on m line store) b).reply ≡ false
  said line b e = said_in line.state line.spoiled line.count b e

-- ---- one call

-- n bytes were taken before
abbrev shift : ℕ → Called → Called
shift n c = record { machine = c.machine; taken = n + c.taken; reply = c.reply }

module _ (m : Machine) where
  -- a call on what is gathered so far is the gathering of the rest
  abbrev Gathering : List ℕ → Type 0
  Gathering piece =
      (line : Line) (store : List ℕ) (n : ℕ)
      → shift n (call (on m line store) piece) ≡ called_by m (gathered (can_send m.response) line store n piece)

  gathering_none : Gathering []
  unfolding call gathered
  gathering_none line store n = let e : n + 0 ≡ n = omega arith in λ i. record { machine = on m line store; taken = e i; reply = [] }

  call_said : (line : Line) (store : List ℕ) (b : ℕ) (bs : List ℕ) → is_none (takes (on m line store) b).reply ≡ false
      → call (on m line store) (b ∷ bs) ≡ record { machine = (takes (on m line store) b).machine; taken = 1; reply = (takes (on m line store) b).reply }
  unfolding call step
  call_said line store b bs e = rw e refl

  call_quiet : (n : Machine) (line : Line) (store : List ℕ) (b : ℕ) (bs : List ℕ) → takes (on m line store) b ≡ silent n
      → call (on m line store) (b ∷ bs) ≡ one_more (call n bs)
  unfolding call step
  call_quiet n line store b bs e = rw e refl

  shift_more : (n : ℕ) (c : Called) → shift n (one_more c) ≡ shift (n + 1) c
  shift_more n c = let e : n + suc c.taken ≡ n + 1 + c.taken = omega arith in λ i. record { machine = c.machine; taken = e i; reply = c.reply }

  gathering_more : (b : ℕ) (bs : List ℕ) → Gathering bs → Gathering (b ∷ bs)
  unfolding gathered
  gathering_more b bs ih line store n = cases (asks_in line.state (can_send m.response) b) refl
    where
      cases : (t : Bool) → asks_in line.state (can_send m.response) b ≡ t
          → shift n (call (on m line store) (b ∷ bs))
          ≡ called_by m (cond t (got_as line store (n + 1) true b)
          (gathered (can_send m.response) (taken line b).line (placed_in store (taken line b).told) (n + 1) bs))
      cases true e = ap (shift n) (call_said line store b bs (said m store line b e))
      cases false e =
          ap (shift n) (call_quiet (on m (taken line b).line (placed_in store (taken line b).told)) line store b bs (quiet m store line b e))
          ∙ shift_more n (call (on m (taken line b).line (placed_in store (taken line b).told)) bs)
          ∙ ih (taken line b).line (placed_in store (taken line b).told) (n + 1)

  gathering : (piece : List ℕ) → Gathering piece
  gathering [] = gathering_none
  gathering (b ∷ bs) = gathering_more b bs (gathering bs)

-- ONE CALL is gathering, and then at most one answered byte
pub call_gathered : (m : Machine) (piece : List ℕ)
    → call m piece ≡ called_by m (gathered (can_send m.response) m.line m.store 0 piece)
call_gathered m piece =
    let e : (call m piece).taken ≡ 0 + (call m piece).taken = omega arith in
    (λ i. record { machine = (call m piece).machine; taken = e i; reply = (call m piece).reply }) ∙ gathering m piece m.line m.store 0
