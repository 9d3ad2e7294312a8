-- What is said at all that is seen is the joined replies of a history.
use mathlib.Core.Path.{◌≡◌, refl, sym, ap, ◌∙◌}
use mathlib.Core.Bool.{Bool, true, false, cond}
use mathlib.Core.List.{List, [], ◌∷◌, ◌++◌}
use Prim.Native.Nat.{ℕ, ◌+◌}
use lib.Dec.{ltb}
use Rattle.packet.specs.Packet.{packet_of}
use Rattle.execution.specs.Core.{Core, with_load, fresh_core}
use Rattle.execution.specs.Core.Opening.{none}
use Rattle.execution.specs.Execute.{execute}
use Rattle.device.specs.Machine.{Holding}
use Rattle.device.specs.Machine.Holding.{nothing, holding}
use Rattle.history.specs.Text.Item.{good, bad, can, nak}
use Rattle.history.specs.Ran.{Seen, Ran}
use Rattle.history.specs.Ran.Seen.{item, restarted}
use Rattle.history.specs.Ran.Ran.{payload, restarted as ranRestart}
use Rattle.history.specs.Replies.{response_after, Held, again_said, again_held, replies_from}
use Rattle.history.specs.Replies.Held.{nothing as heldNothing, held}
use Rattle.history.specs.Claims.{perform, perform_all}
use Rattle.history.proofs.Performing.{Doing, held_again, said_again, does, says_at, says_all}
use Rattle.history.proofs.TablesHold.{response_hold}

-- ---- what is held, as a device holds it and as a history gives it

abbrev held_of : Holding → Held
held_of nothing = heldNothing
held_of (holding p n) = held p n

again_said_lem : (q : Holding) → said_again q ≡ again_said (held_of q)
again_said_lem nothing = refl
again_said_lem (holding p n) = refl

again_held_lem : (q : Holding) → held_of (held_again q) ≡ again_held (held_of q)
again_held_lem nothing = refl
again_held_lem (holding p n) = by (ltb n 3)
  where
    by : (t : Bool) → held_of (cond t (holding p (n + 1)) (holding p n)) ≡ cond t (held p (n + 1)) (held p n)
    by true = refl
    by false = refl

-- ---- what ran before

perform_append : (c : Core) (rs ts : List Ran) → perform_all c (rs ++ ts) ≡ perform_all (perform_all c rs) ts
unfolding perform_all
perform_append c [] ts = refl
perform_append c (r ∷ rs) ts = perform_append (perform c r) rs ts

-- a device that holds a response, after what ran
abbrev after : List Ran → Holding → Doing
after ran q = record { response = q; core = perform_all fresh_core ran }

abbrev Goal : List Seen → Type 0
Goal s = (ran : List Ran) (q : Holding) → says_all (after ran q) s ≡ replies_from ran (held_of q) s

says_good : (p : List ℕ) (s : List Seen) → Goal s → Goal (item (good p) ∷ s)
unfolding says_all says_at does replies_from perform_all perform
says_good p s ih ran q =
    let r = response_hold ran p in
    let c : execute (perform_all fresh_core ran) p ≡ perform_all fresh_core (ran ++ (payload p ∷ [])) = sym (perform_append fresh_core ran (payload p ∷ [])) in
    (λ i. (0x06 ∷ packet_of (r i)) ++ says_all (record { response = holding (r i) 0; core = c i }) s)
    ∙ ap (λ (l : List ℕ). (0x06 ∷ packet_of (response_after ran p)) ++ l) (ih (ran ++ (payload p ∷ [])) (holding (response_after ran p) 0))

says_nak : (s : List Seen) → Goal s → Goal (item nak ∷ s)
unfolding says_all says_at does replies_from
says_nak s ih ran q =
    ap (λ (l : List ℕ). said_again q ++ l) (ih ran (held_again q))
    ∙ (λ i. again_said_lem q i ++ replies_from ran (again_held_lem q i) s)

says_restarted : (s : List Seen) → Goal s → Goal (restarted ∷ s)
unfolding says_all says_at does replies_from perform_all perform
says_restarted s ih ran q =
    let c : with_load (perform_all fresh_core ran) none ≡ perform_all fresh_core (ran ++ (ranRestart ∷ [])) = sym (perform_append fresh_core ran (ranRestart ∷ [])) in
    (λ i. says_all (record { response = nothing; core = c i }) s) ∙ ih (ran ++ (ranRestart ∷ [])) nothing

replies_from_lem : (s : List Seen) → Goal s
unfolding says_all says_at does replies_from
replies_from_lem [] ran q = refl
replies_from_lem (item (good p) ∷ s) ran q = says_good p s (replies_from_lem s) ran q
replies_from_lem (item bad ∷ s) ran q = ap (λ (l : List ℕ). 0x15 ∷ l) (replies_from_lem s ran q)
replies_from_lem (item can ∷ s) ran q = ap (λ (l : List ℕ). 0x04 ∷ l) (replies_from_lem s ran nothing)
replies_from_lem (item nak ∷ s) ran q = says_nak s (replies_from_lem s) ran q
replies_from_lem (restarted ∷ s) ran q = says_restarted s (replies_from_lem s) ran q

-- THE REPLIES HOLD: what a fresh device says at all that is seen is the joined replies, found with no device
pub replies_hold : (s : List Seen) → says_all (record { response = nothing; core = fresh_core }) s ≡ replies_from [] heldNothing s
unfolding perform_all
replies_hold s = replies_from_lem s [] nothing
