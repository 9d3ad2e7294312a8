-- What holds of any calls from a fresh device: the cut does not matter, and none is refused where there is room.
use mathlib.Core.Path.{◌≡◌, refl, sym, ap, ◌∙◌}
use mathlib.Core.List.{List, [], append-nil}
use Prim.Native.Nat.{ℕ, ◌≤◌}
use Rattle.state.specs.State.{State, state_as}
use Rattle.state.specs.Sound.{refusal_of}
use Rattle.device.specs.Events.{Event}
use Rattle.device.specs.Machine.{fresh}
use Rattle.device.specs.Between.{state_of}
use Rattle.device.specs.Promise.{Started, start_refusal, started_from, Starts}
use Rattle.history.specs.Calls.{Calls}
use Rattle.history.specs.Reading.{run}
use Rattle.history.proofs.LegalRuns.{fresh_legal, run_legal, accepted}
use Rattle.history.proofs.Handed.{Handed, handed}

-- where a device starts: the state of a fresh machine
pub started_fresh : (live loading : List ℕ) (r : Started) (live' loading' : List ℕ) → Starts live loading r live' loading' → r.refusal ≡ 0
    → state_as r.device live' loading' ≡ state_of fresh
started_fresh live loading r live' loading' s e =
    let z : start_refusal live loading ≡ 0 = sym (ap {B = ℕ} (λ (q : Started). q.refusal) s.result) ∙ e in
    (λ i. state_as (s.result i).device (s.live_is i) (s.loading_is i))
    ∙ ap (λ (n : ℕ). state_as (state_of fresh).device (started_from n live loading).live (started_from n live loading).loading) z

-- all of a history was handed over
pub whole_run : (h : List Event) {y : State} {said : List ℕ} → Handed fresh h [] y said → (y ≡ state_of (run fresh h).machine) × (said ≡ (run fresh h).reply)
whole_run h i =
    let e : i.prefix ≡ h = sym (i.splits ∙ append-nil i.prefix) in
    (i.state_is ∙ ap (λ (t : List Event). state_of (run fresh t).machine) e, i.said_is ∙ ap (λ (t : List Event). (run fresh t).reply) e)

-- CUT: joined replies and final state depend on the history alone
pub cut : (h : List Event) {y y' : State} {said said' : List ℕ} → Calls (state_of fresh) h [] y said → Calls (state_of fresh) h [] y' said' → (y ≡ y') × (said ≡ said')
cut h a b =
    let p = whole_run h (handed a fresh fresh_legal refl) in
    let q = whole_run h (handed b fresh fresh_legal refl) in
    (p.0 ∙ sym q.0, p.1 ∙ sym q.1)

-- NEVER REFUSED: after any calls from a fresh device, a call with room of 64 is not refused
pub never_refused : {h rest : List Event} {y : State} {said : List ℕ} → Calls (state_of fresh) h rest y said → (room : ℕ) → 64 ≤ room → refusal_of room y ≡ 0
never_refused c room k =
    let i = handed c fresh fresh_legal refl in
    ap (refusal_of room) i.state_is ∙ accepted (run fresh i.prefix).machine (run_legal fresh i.prefix fresh_legal) room k
