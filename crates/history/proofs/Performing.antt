-- What ran, said of commands alone, and the machine's run: its replies and its core are those of what is read.
use mathlib.Core.Path.{◌≡◌, refl, sym, ap, ◌∙◌, subst}
use mathlib.Core.Bool.{Bool, true, false, ◌&&◌, cond, false≢true}
use mathlib.Core.List.{List, [], ◌∷◌, ◌++◌, append_assoc, append-nil}
use Prim.Native.Nat.{ℕ, ◌+◌}
use lib.ListN.{take}
use lib.Dec.{leb, ltb, eqb}
use borrow.Author.Tests.{eqb-true}
use Rattle.packet.specs.Packet.{packet_of}
use Rattle.reception.specs.declared.Reception.{Reception}
use Rattle.reception.specs.declared.Reception.TheVariants.{Idle, InData, After13h, FirstCheck, SecondCheck}
use Rattle.reception.specs.declared.Line.{Line}
use Rattle.reception.specs.declared.Told.{Told}
use Rattle.reception.specs.declared.Told.TheVariants.{Nothing, Payload, Complete}
use Rattle.reception.specs.declared.Took.{Took}
use Rattle.reception.specs.Reception.{idle, started, line_of, going_on, spoiled_in, took_of, placed, from_idle, from_data, from13h, taken_in, taken}
use Rattle.execution.specs.Core.{Core, with_load}
use Rattle.execution.specs.Core.Opening.{none}
use Rattle.execution.specs.Execute.{execute, response_of}
use Rattle.state.specs.State.{is_idle}
use Rattle.device.specs.Events.{Event}
use Rattle.device.specs.Events.Event.{byte, timeout, restart}
use Rattle.device.specs.Machine.{Holding, Machine, Stepped, on, holds, silent, good_packet, runs, refuses, completes, hears, cancels, again, takes, restarted as restartedOf, step}
use Rattle.device.specs.Machine.Holding.{nothing, holding}
use Rattle.gathering.specs.Gathering.{placed_in}
use Rattle.history.specs.Text.{Item}
use Rattle.history.specs.Text.Item.{good, bad, can, nak}
use Rattle.history.specs.Ran.{Seen, items, ran_in}
use Rattle.history.specs.Ran.Seen.{item, restarted}
use Rattle.history.specs.Reading.{heard_item, told_items, items_at, read_from, run}
use Rattle.history.specs.Claims.{perform, perform_all}

-- ---- what is seen, and what it makes of the held response and the core

pub record Doing : Type 0 where
  pub response : Holding
  pub core : Core

abbrev pub doing_of : Machine → Doing
doing_of m = record { response = m.response; core = m.core }

-- NAK counts one more where the held response was sent again less than 3 times
abbrev pub held_again : Holding → Holding
held_again nothing = nothing
held_again (holding p n) = cond (ltb n 3) (holding p (n + 1)) (holding p n)

-- and then sends its packet
abbrev pub said_again : Holding → List ℕ
said_again nothing = []
said_again (holding p n) = cond (ltb n 3) (packet_of p) []

unfoldable pub does : Doing → Seen → Doing
does d (item (good p)) = record { response = holding (response_of d.core p) 0; core = execute d.core p }
does d (item bad) = d
does d (item can) = record { response = nothing; core = d.core }
does d (item nak) = record { response = held_again d.response; core = d.core }
does d restarted = record { response = nothing; core = with_load d.core none }

unfoldable pub says_at : Doing → Seen → List ℕ
says_at d (item (good p)) = 0x06 ∷ packet_of (response_of d.core p)
says_at d (item bad) = 0x15 ∷ []
says_at d (item can) = 0x04 ∷ []
says_at d (item nak) = said_again d.response
says_at d restarted = []

unfoldable pub does_all : Doing → List Seen → Doing
does_all d [] = d
does_all d (s ∷ ss) = does_all (does d s) ss

unfoldable pub says_all : Doing → List Seen → List ℕ
says_all d [] = []
says_all d (s ∷ ss) = says_at d s ++ says_all (does d s) ss

-- what is done at one part of what is seen after another
pub does_append : (d : Doing) (s t : List Seen) → does_all d (s ++ t) ≡ does_all (does_all d s) t
unfolding does_all
does_append d [] t = refl
does_append d (x ∷ s) t = does_append (does d x) s t

-- what is said at one part of what is seen after another
pub says_append : (d : Doing) (s t : List Seen) → says_all d (s ++ t) ≡ says_all d s ++ says_all (does_all d s) t
unfolding does_all says_all
says_append d [] t = refl
says_append d (x ∷ s) t = rw (says_append (does d x) s t) (sym (append_assoc (says_at d x) _ _))

-- ---- one byte

-- a step: line and store go on as they are read, and the rest by what the byte completes
record Did (line : Line) (store : List ℕ) (d : Doing) (is : List Item) (s : Stepped) : Type 0 where
  goes : s.machine.line ≡ line
  keeps : s.machine.store ≡ store
  does_so : doing_of s.machine ≡ does_all d (items is)
  says_so : s.reply ≡ says_all d (items is)

-- a complete packet leaves the line idle
abbrev Ends : Line → Told → Type 0
Ends line Nothing = Unit {0}
Ends line (Payload at b) = Unit {0}
Ends line (Complete a b) = line ≡ idle

ends_either : (t : Bool) (x y : Took) → Ends x.line x.told → Ends y.line y.told → Ends (cond t x y).line (cond t x y).told
ends_either true x y h k = h
ends_either false x y h k = k

ends_placed : (line : Line) (b : ℕ) → Ends (placed line b).line (placed line b).told
unfolding placed
ends_placed line b = ends_either (leb 2048 line.count) (spoiled_in line InData) (took_of (line_of InData line.spoiled (line.count + 1)) (Payload line.count b)) tt tt

ends : (r : Reception) (line : Line) (b : ℕ) → Ends (taken_in r line b).line (taken_in r line b).told
unfolding from_idle from_data from13h
ends Idle line b = ends_either (eqb b 0x16) _ _ tt tt
ends InData line b =
    ends_either (eqb b 0x16) started _ tt
    (ends_either (eqb b 0x17) (going_on line FirstCheck) _ tt
    (ends_either (eqb b 0x13) (going_on line After13h) _ tt
    (ends_placed line b)))
ends After13h line b =
    ends_either (eqb b 0x16) started _ tt
    (ends_either (eqb b 0x17) (spoiled_in line FirstCheck) _ tt
    (ends_either (eqb b 0x33) (placed line 0x13) _ (ends_placed line 0x13)
    (ends_either (eqb b 0x36) (placed line 0x16) _ (ends_placed line 0x16)
    (ends_either (eqb b 0x37) (placed line 0x17) _ (ends_placed line 0x17)
    tt))))
ends FirstCheck line b = tt
ends (SecondCheck first) line b = refl

-- NAK between packets
module _ (m : Machine) (p : List ℕ) (n : ℕ) (e : m.response ≡ holding p n) where
  abbrev sent : Bool → Stepped
  sent t = cond t (record { machine = holds m (holding p (n + 1)); reply = packet_of p }) (silent m)

  sent_goes : (t : Bool) → (sent t).machine.line ≡ m.line
  sent_goes true = refl
  sent_goes false = refl

  sent_keeps : (t : Bool) → (sent t).machine.store ≡ m.store
  sent_keeps true = refl
  sent_keeps false = refl

  sent_does : (t : Bool) → doing_of (sent t).machine ≡ record { response = cond t (holding p (n + 1)) (holding p n); core = m.core }
  sent_does true = refl
  sent_does false = λ i. record { response = e i; core = m.core }

  sent_says : (t : Bool) → (sent t).reply ≡ cond t (packet_of p) []
  sent_says true = refl
  sent_says false = refl

did_again : (m : Machine) → Did m.line m.store (doing_of m) (nak ∷ []) (again m m.response)
unfolding again items does_all says_all does says_at
did_again m = by m.response refl
  where
    by : (q : Holding) → m.response ≡ q → Did m.line m.store (record { response = q; core = m.core }) (nak ∷ []) (again m q)
    by nothing e = record { goes = refl; keeps = refl; does_so = λ i. record { response = e i; core = m.core }; says_so = refl }
    by (holding p n) e = record {
      goes = sent_goes m p n e (ltb n 3);
      keeps = sent_keeps m p n e (ltb n 3);
      does_so = sent_does m p n e (ltb n 3);
      says_so = sent_says m p n e (ltb n 3) ∙ sym (append-nil _);
    }

-- a complete packet
did_complete : (m : Machine) (a b : ℕ) → Did idle m.store (doing_of m) (heard_item m.line m.store a b ∷ []) (completes m a b)
unfolding completes runs items does_all says_all does says_at
did_complete m a b = by (good_packet m.line.spoiled (take m.line.count m.store) a b)
  where
    by : (t : Bool) → Did idle m.store (doing_of m) (cond t (good (take m.line.count m.store)) bad ∷ []) (cond t (runs m (take m.line.count m.store)) (refuses m))
    by true = record { goes = refl; keeps = refl; does_so = refl; says_so = sym (append-nil _) }
    by false = record { goes = refl; keeps = refl; does_so = refl; says_so = refl }

-- what reception tells of a byte: where it completes a packet, the line is idle again
did_hears : (m : Machine) (line : Line) (told : Told) → Ends line told
    → Did line (placed_in m.store told) (doing_of m) (told_items m.line m.store told) (hears m line told)
unfolding items does_all says_all
did_hears m line Nothing e = record { goes = refl; keeps = refl; does_so = refl; says_so = refl }
did_hears m line (Payload at b) e = record { goes = refl; keeps = refl; does_so = refl; says_so = refl }
did_hears m line (Complete a b) e = subst (λ (l : Line). Did l m.store (doing_of m) (heard_item m.line m.store a b ∷ []) (completes m a b)) (sym e) (did_complete m a b)

-- a byte between packets that starts none leaves the line where it is
stays : (line : Line) (b k : ℕ) → is_idle line.state && eqb b k ≡ true → eqb k 0x16 ≡ false → taken line b ≡ took_of line Nothing
unfolding taken from_idle
stays line b k e f = by line.state refl e
  where
    by : (r : Reception) → line.state ≡ r → is_idle r && eqb b k ≡ true → taken_in r line b ≡ took_of line Nothing
    by Idle s h =
        ap (λ (t : Bool). cond t started (going_on line Idle)) (ap (λ (x : ℕ). eqb x 0x16) (eqb-true b k h) ∙ f)
        ∙ (λ i. took_of (line_of (sym s i) line.spoiled line.count) Nothing)
    by InData s h = absurd (false≢true h)
    by After13h s h = absurd (false≢true h)
    by FirstCheck s h = absurd (false≢true h)
    by (SecondCheck a) s h = absurd (false≢true h)

-- one byte
did : (m : Machine) (b : ℕ) → Did (taken m.line b).line (placed_in m.store (taken m.line b).told) (doing_of m) (items_at m.line m.store b) (takes m b)
unfolding takes items_at taken items does_all says_all does says_at
did m b = by (is_idle m.line.state && eqb b 0x18) (is_idle m.line.state && eqb b 0x15) refl refl
  where
    by : (t u : Bool) → is_idle m.line.state && eqb b 0x18 ≡ t → is_idle m.line.state && eqb b 0x15 ≡ u
        → Did (taken m.line b).line (placed_in m.store (taken m.line b).told) (doing_of m)
        (cond t (can ∷ []) (cond u (nak ∷ []) (told_items m.line m.store (taken m.line b).told)))
        (cond t (cancels m) (cond u (again m m.response) (hears m (taken m.line b).line (taken m.line b).told)))
    by true u e f = rw (stays m.line b 0x18 e refl) (record { goes = refl; keeps = refl; does_so = refl; says_so = refl })
    by false true e f = rw (stays m.line b 0x15 f refl) (did_again m)
    by false false e f = did_hears m (taken m.line b).line (taken m.line b).told (ends m.line.state m.line b)

-- ---- THE MACHINE'S RUN

-- the joined replies of a run are what is said at all that is read, in order
pub run_says : (m : Machine) (h : List Event) → (run m h).reply ≡ says_all (doing_of m) (read_from m.line m.store h)
unfolding run step read_from says_all says_at does
run_says m [] = refl
run_says m (byte b ∷ h) =
    let d = did m b in
    ap (λ (l : List ℕ). (takes m b).reply ++ l) (run_says (takes m b).machine h)
    ∙ (λ i. d.says_so i ++ says_all (d.does_so i) (read_from (d.goes i) (d.keeps i) h))
    ∙ sym (says_append (doing_of m) (items (items_at m.line m.store b)) _)
run_says m (timeout ∷ h) = run_says (on m idle m.store) h
run_says m (restart ∷ h) = run_says (restartedOf m) h

-- the held response and the core after a run are what is done at all that is read, in order
pub run_does : (m : Machine) (h : List Event) → doing_of (run m h).machine ≡ does_all (doing_of m) (read_from m.line m.store h)
unfolding run step read_from does_all does
run_does m [] = refl
run_does m (byte b ∷ h) =
    let d = did m b in
    run_does (takes m b).machine h
    ∙ (λ i. does_all (d.does_so i) (read_from (d.goes i) (d.keeps i) h))
    ∙ sym (does_append (doing_of m) (items (items_at m.line m.store b)) _)
run_does m (timeout ∷ h) = run_does (on m idle m.store) h
run_does m (restart ∷ h) = run_does (restartedOf m) h

-- the core after what is seen is that of the payloads that run, in order and once each, and of the restarts
pub core_ran : (d : Doing) (s : List Seen) → (does_all d s).core ≡ perform_all d.core (ran_in s)
unfolding does_all does perform_all perform ran_in
core_ran d [] = refl
core_ran d (item (good p) ∷ s) = core_ran (does d (item (good p))) s
core_ran d (item bad ∷ s) = core_ran (does d (item bad)) s
core_ran d (item can ∷ s) = core_ran (does d (item can)) s
core_ran d (item nak ∷ s) = core_ran (does d (item nak)) s
core_ran d (restarted ∷ s) = core_ran (does d restarted) s
