-- A legal machine stays legal: a fresh one is, every event leaves it so, and its state is not refused.
use mathlib.Core.Path.{◌≡◌, refl, ◌∙◌}
use mathlib.Core.Bool.{Bool, true, false, ◌&&◌, cond}
use mathlib.Core.List.{List, [], ◌∷◌}
use Prim.Native.Nat.{ℕ, ◌+◌, ◌≤◌}
use native.Mathlib.Omega.{arith}
use lib.ListN.{length, set, length-set, length-replicate}
use lib.Dec.{leb, ltb, eqb}
use borrow.Author.Tests.{ltb-true, le-ltb, leb-false}
use Rattle.packet.specs.Packet.{packet_of}
use Rattle.reception.specs.declared.Reception.{Reception}
use Rattle.reception.specs.declared.Reception.TheVariants.{Idle, InData, After13h, FirstCheck, SecondCheck}
use Rattle.reception.specs.declared.Line.{Line}
use Rattle.reception.specs.declared.Told.{Told}
use Rattle.reception.specs.declared.Told.TheVariants.{Nothing, Payload, Complete}
use Rattle.reception.specs.declared.Took.{Took}
use Rattle.reception.specs.Reception.{line_of, took_of, idle, started, going_on, spoiled_in, placed, from_idle, from_data, from13h, taken_in, taken}
use Rattle.execution.proofs.Executing.{fresh_legal as core-fresh}
use Rattle.execution.proofs.Keeping.{drop_legal, execute_legal, response_good}
use Rattle.state.specs.State.{is_idle}
use Rattle.state.specs.Sound.{refusal_of}
use Rattle.device.specs.Events.{Event}
use Rattle.device.specs.Events.Event.{byte, timeout, restart}
use Rattle.device.specs.Machine.{Holding, Machine, Stepped, fresh, on, holds, silent, payload_of, good_packet, runs, refuses, completes, hears, cancels, again, takes, restarted, step}
use Rattle.device.specs.Machine.Holding.{nothing, holding}
use Rattle.device.specs.Between.{state_of}
use Rattle.device.specs.Claims.{LegalLine, LegalHolding, Legal}
use Rattle.device.proofs.Back.{legal_size, legal_good}
use Rattle.history.specs.Reading.{run}

-- ---- reception

abbrev LegalAt : Line → Type 0
LegalAt line = LegalLine line.state line.spoiled line.count

line_either : (t : Bool) (a b : Took) → LegalAt a.line → LegalAt b.line → LegalAt (cond t a b).line
line_either true a b f g = f
line_either false a b f g = g

placed_legal : (line : Line) (b : ℕ) → line.count ≤ 2048 → LegalAt (placed line b).line
unfolding placed
placed_legal line b h = cases (leb 2048 line.count) refl
  where
    cases : (t : Bool) → leb 2048 line.count ≡ t
        → LegalAt (cond t (spoiled_in line InData) (took_of (line_of InData line.spoiled (line.count + 1)) (Payload line.count b))).line
    cases true e = h
    cases false e = let k = leb-false 2048 line.count e in omega arith

started_legal : LegalAt started.line
started_legal = let h : 0 ≤ 2048 = omega arith in h

data_legal : (line : Line) (b : ℕ) → line.count ≤ 2048 → LegalAt (from_data line b).line
unfolding from_data
data_legal line b h =
    line_either (eqb b 0x16) started _ started_legal
    (line_either (eqb b 0x17) (going_on line FirstCheck) _ h
    (line_either (eqb b 0x13) (going_on line After13h) (placed line b) h (placed_legal line b h)))

pair_legal : (line : Line) (b : ℕ) → line.count ≤ 2048 → LegalAt (from13h line b).line
unfolding from13h
pair_legal line b h =
    line_either (eqb b 0x16) started _ started_legal
    (line_either (eqb b 0x17) (spoiled_in line FirstCheck) _ h
    (line_either (eqb b 0x33) (placed line 0x13) _ (placed_legal line 0x13 h)
    (line_either (eqb b 0x36) (placed line 0x16) _ (placed_legal line 0x16 h)
    (line_either (eqb b 0x37) (placed line 0x17) (spoiled_in line InData) (placed_legal line 0x17 h) h))))

in_legal : (r : Reception) (spoiled : Bool) (count : ℕ) (b : ℕ) → LegalLine r spoiled count → LegalAt (taken_in r (line_of r spoiled count) b).line
unfolding from_idle
in_legal Idle spoiled count b h = line_either (eqb b 0x16) started (going_on (line_of Idle spoiled count) Idle) started_legal h
in_legal InData spoiled count b h = data_legal (line_of InData spoiled count) b h
in_legal After13h spoiled count b h = pair_legal (line_of After13h spoiled count) b h
in_legal FirstCheck spoiled count b h = h
in_legal (SecondCheck a) spoiled count b h = (refl, refl)

-- a byte leaves a line that can be
taken_legal : (line : Line) (b : ℕ) → LegalAt line → LegalAt (taken line b).line
unfolding taken
taken_legal line b h = in_legal line.state line.spoiled line.count b h

-- ---- the steps

on_legal : (m : Machine) (line : Line) (store : List ℕ) → LegalAt line → length store ≡ 2048 → Legal m → Legal (on m line store)
on_legal m line store h k g = record { line_legal = h; store_long = k; response_legal = g.response_legal; core_legal = g.core_legal }

holds_legal : (m : Machine) (r : Holding) → LegalHolding r → Legal m → Legal (holds m r)
holds_legal m r h g = record { line_legal = g.line_legal; store_long = g.store_long; response_legal = h; core_legal = g.core_legal }

step_either : (t : Bool) (a b : Stepped) → Legal a.machine → Legal b.machine → Legal (cond t a b).machine
step_either true a b f g = f
step_either false a b f g = g

-- a command
runs_legal : (m : Machine) (p : List ℕ) → Legal m → Legal (runs m p).machine
unfolding runs
runs_legal m p g =
    record {
      line_legal = (refl, refl);
      store_long = g.store_long;
      response_legal = (response_good m.core p g.core_legal, omega arith);
      core_legal = execute_legal m.core p g.core_legal;
    }

completes_legal : (m : Machine) (a b : ℕ) → Legal m → Legal (completes m a b).machine
unfolding completes
completes_legal m a b g =
    step_either (good_packet m.line.spoiled (payload_of m) a b) (runs m (payload_of m)) (refuses m)
    (runs_legal m (payload_of m) g) (on_legal m idle m.store (refl, refl) g.store_long g)

hears_legal : (m : Machine) (line : Line) (t : Told) → LegalAt line → Legal m → Legal (hears m line t).machine
hears_legal m line Nothing h g = on_legal m line m.store h g.store_long g
hears_legal m line (Payload at b) h g = on_legal m line (set m.store at b) h (length-set m.store at b ∙ g.store_long) g
hears_legal m line (Complete a b) h g = completes_legal m a b g

-- NAK
again_legal : (m : Machine) (r : Holding) → LegalHolding r → Legal m → Legal (again m r).machine
unfolding again
again_legal m nothing h g = g
again_legal m (holding p n) h g = cases (ltb n 3) refl
  where
    cases : (t : Bool) → ltb n 3 ≡ t → Legal (cond t (record { machine = holds m (holding p (n + 1)); reply = packet_of p }) (silent m)).machine
    cases true e = let l = ltb-true n 3 e in holds_legal m (holding p (n + 1)) (h.0, omega arith) g
    cases false e = g

takes_legal : (m : Machine) (b : ℕ) → Legal m → Legal (takes m b).machine
unfolding takes
takes_legal m b g =
    step_either (is_idle m.line.state && eqb b 0x18) (cancels m) _ (holds_legal m nothing tt g)
    (step_either (is_idle m.line.state && eqb b 0x15) (again m m.response) _ (again_legal m m.response g.response_legal g)
    (hears_legal m (taken m.line b).line (taken m.line b).told (taken_legal m.line b g.line_legal) g))

restart_legal : (m : Machine) → Legal m → Legal (restarted m)
restart_legal m g = record { line_legal = (refl, refl); store_long = g.store_long; response_legal = tt; core_legal = drop_legal m.core g.core_legal }

-- A FRESH MACHINE is legal
pub fresh_legal : Legal fresh
unfolding fresh
fresh_legal = record { line_legal = (refl, refl); store_long = length-replicate {A = ℕ} 2048 0; response_legal = tt; core_legal = core-fresh }

-- EVERY EVENT leaves a legal machine legal
pub step_legal : (m : Machine) (e : Event) → Legal m → Legal (step m e).machine
unfolding step
step_legal m (byte b) g = takes_legal m b g
step_legal m timeout g = on_legal m idle m.store (refl, refl) g.store_long g
step_legal m restart g = restart_legal m g

-- and so does every history
pub run_legal : (m : Machine) (h : List Event) → Legal m → Legal (run m h).machine
unfolding run
run_legal m [] g = g
run_legal m (e ∷ h) g = run_legal (step m e).machine h (step_legal m e g)

-- a legal machine's state is not refused, where there is room for 64 bytes
pub accepted : (m : Machine) → Legal m → (room : ℕ) → 64 ≤ room → refusal_of room (state_of m) ≡ 0
unfolding refusal_of
accepted m g room h = rw (le-ltb room 64 h, legal_size m g, legal_good m g) refl
