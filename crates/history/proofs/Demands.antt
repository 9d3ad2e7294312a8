-- DEMAND 3: what calls in any cut come to, from the start of a device, worked out from the history alone.
use mathlib.Core.Path.{◌≡◌, refl, ap, subst, ◌∙◌}
use mathlib.Core.List.{List, []}
use Prim.Native.Nat.{ℕ, ◌≤◌}
use lib.ListN.{replicate, length-replicate}
use Rattle.records.specs.Store.{store_of}
use Rattle.execution.specs.Core.{Core, fresh_core}
use Rattle.execution.specs.Stored.{extent_of, core_of, stored_of}
use Rattle.execution.proofs.Between.{core_back}
use Rattle.state.specs.State.{State, state_as, stored_in}
use Rattle.state.specs.Sound.{refusal_of}
use Rattle.device.specs.Events.{Event}
use Rattle.device.specs.Machine.{fresh}
use Rattle.device.specs.Between.{state_of}
use Rattle.device.specs.Promise.{Started, Starts}
use Rattle.history.specs.Ran.{seen_of, ran_of}
use Rattle.history.specs.Replies.{replies_of}
use Rattle.history.specs.Reading.{read_from, run}
use Rattle.history.specs.Calls.{Calls}
use Rattle.history.specs.Claims.{perform_all, Comes, DemandThree}
use Rattle.history.proofs.ByEye.{seen_by_eye}
use Rattle.history.proofs.Performing.{Doing, doing_of, says_all, does_all, run_says, run_does, core_ran}
use Rattle.history.proofs.TablesHold.{tables_hold}
use Rattle.history.proofs.RepliesHold.{replies_hold}
use Rattle.history.proofs.LegalRuns.{fresh_legal, run_legal}
use Rattle.history.proofs.Handed.{handed}
use Rattle.history.proofs.Theorems.{started_fresh, cut, never_refused}

-- ---- the run of a fresh machine

-- what it reads is what is seen by eye
fresh_reads : (h : List Event) → read_from fresh.line fresh.store h ≡ seen_of h
unfolding fresh
fresh_reads h = seen_by_eye (replicate 2048 0) (length-replicate {A = ℕ} 2048 0) h

-- its joined replies
pub run_replies : (h : List Event) → (run fresh h).reply ≡ replies_of h
unfolding fresh
run_replies h = run_says fresh h ∙ ap (says_all (doing_of fresh)) (fresh_reads h) ∙ replies_hold (seen_of h)

-- the commands executed are the payloads that run, in order, each once
pub run_core : (h : List Event) → (run fresh h).machine.core ≡ perform_all fresh_core (ran_of h)
unfolding fresh
run_core h = ap (λ (d : Doing). d.core) (run_does fresh h ∙ ap (does_all (doing_of fresh)) (fresh_reads h)) ∙ core_ran (doing_of fresh) (seen_of h)

-- ---- DEMAND 3

comes_run : (h : List Event) (y : State) → y ≡ state_of (run fresh h).machine → (said : List ℕ) → said ≡ (run fresh h).reply → ((room : ℕ) → 64 ≤ room → refusal_of room y ≡ 0) → Comes h y said
unfolding state_of stored_of
comes_run h y e said f a =
    let t = tables_hold (ran_of h) in
    let c = run_core h in
    let r = ap (λ (k : Core). k.records) c ∙ t.0 in
    let v = ap (λ (k : Core). k.versions) c ∙ t.1 in
    record {
      replies = f ∙ run_replies h;
      live_is = ap (λ (x : State). x.live) e ∙ ap (store_of 32768) r;
      extent_is = ap (λ (x : State). x.device.tables.live) e ∙ ap extent_of r;
      versions_are = ap (λ (x : State). x.device.tables.versions) e ∙ v;
      executed_are = ap (λ (x : State). core_of (stored_in x)) e ∙ core_back (run fresh h).machine.core (run_legal fresh h fresh_legal).core_legal ∙ c;
      accepts = a;
    }

-- from a device that was started with good stores, whatever the calls: at each moment
pub demand_three : (live loading : List ℕ) (r : Started) (live' loading' : List ℕ) → Starts live loading r live' loading' → r.refusal ≡ 0
    → {h rest : List Event} {y : State} {said : List ℕ} → Calls (state_as r.device live' loading') h rest y said → DemandThree h rest y said
demand_three live loading r live' loading' s z {h} {rest} {y} {said} c =
    let d = subst (λ (x : State). Calls x h rest y said) (started_fresh live loading r live' loading' s z) c in
    let g = handed d fresh fresh_legal refl in
    record { prefix = g.prefix; splits = g.splits; comes = comes_run g.prefix y g.state_is said g.said_is (never_refused d) }

-- CUT: two ways of handing over one history end in one state, device and both stores, and say the same
pub demand_cut : (live loading : List ℕ) (r : Started) (live' loading' : List ℕ) → Starts live loading r live' loading' → r.refusal ≡ 0
    → (h : List Event) {y y' : State} {said said' : List ℕ} → Calls (state_as r.device live' loading') h [] y said → Calls (state_as r.device live' loading') h [] y' said'
    → (y ≡ y') × (said ≡ said')
demand_cut live loading r live' loading' s z h {y} {y'} {said} {said'} a b =
    let e = started_fresh live loading r live' loading' s z in
    cut h (subst (λ (x : State). Calls x h [] y said) e a) (subst (λ (x : State). Calls x h [] y' said') e b)
