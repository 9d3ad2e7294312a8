-- What the promise of the picker fixes: one result, and what it wrote.
use mathlib.Core.Path.{◌≡◌, refl, sym, ap, ◌∙◌, subst}
use mathlib.Core.List.{List}
use Prim.Native.Nat.{ℕ}
use lib.ListN.{take}
use Rattle.std.specs.Prelude.{Option, Some, None, Result, Ok, Err}
use Rattle.answer.specs.declared.refusal.Refusal.{Refusal}
use Rattle.answer.specs.Answers.{Output, Gives}
use Rattle.answer.proofs.Promises.{gives_one, same_good, not_good, success}
use Rattle.objects.specs.Object.{unless}
use Rattle.picking.specs.Lists.{objects_of, objects_refusal, tags_refusal}
use Rattle.picking.specs.Pick.{picked_of, pick}
use Rattle.picking.specs.Claims.{NoneWithheld}
use Rattle.picking.proofs.Withheld.{never_withheld}
use Rattle.objects.specs.Claims.{AllBytes}

-- ONE RESULT: two results of a call that its promise allows for one entry are one
pub pick_one : (tags objects out : List ℕ) (r s : Result ℕ Refusal) (o o' : List ℕ) → Gives (pick tags objects) out r o → Gives (pick tags objects) out s o' → (r ≡ s) × (o ≡ o')
pick_one tags objects = gives_one (pick tags objects)

-- ---- the picker refuses, or both lists are good and it gives what is picked

pick_either : (tags objects : List ℕ) (P : Output → Type 0) → ((e : Refusal) → P (Err e))
    → (tags_refusal tags ≡ None → objects_refusal objects ≡ None → P (Ok (picked_of tags objects))) → P (pick tags objects)
unfolding pick
pick_either tags objects P bad good = cases (tags_refusal tags) (objects_refusal objects) refl refl
  where
    cases : (t o : Option Refusal) → tags_refusal tags ≡ t → objects_refusal objects ≡ o → P (unless t (unless o (Ok (picked_of tags objects))))
    cases (Some e) o h k = bad e
    cases None (Some e) h k = bad e
    cases None None h k = good h k

-- ---- PICK: a success, and what it wrote

pub pick_gives : (tags objects s : List ℕ) → pick tags objects ≡ Ok s → (tags_refusal tags ≡ None) × (objects_refusal objects ≡ None) × (s ≡ picked_of tags objects)
pick_gives tags objects s =
    pick_either tags objects (λ (r : Output). r ≡ Ok s → (tags_refusal tags ≡ None) × (objects_refusal objects ≡ None) × (s ≡ picked_of tags objects))
    (λ n e. absurd (not_good e)) (λ t o e. (t, o, sym (same_good e)))

module _ (tags objects out : List ℕ) (n : ℕ) (out' : List ℕ) (w : Gives (pick tags objects) out (Ok n) out') where
  picks : (objects_refusal objects ≡ None) × (take n out' ≡ picked_of tags objects)
  picks =
      let d = success (pick tags objects) out n out' w in
      let g = pick_gives tags objects d.given d.is in
      (g.1, d.bytes ∙ g.2)

  -- what stands at the start of the buffer is what the definition picks
  pub pick_writes : take n out' ≡ picked_of tags objects
  pick_writes = picks.1

  -- and reads as a list of objects of which none is withheld
  pub pick_withholds : AllBytes objects → (objects_refusal (take n out') ≡ None) × NoneWithheld (objects_of (take n out'))
  pick_withholds b =
      let a = never_withheld tags objects b picks.0 in
      (ap objects_refusal pick_writes ∙ a.0, subst NoneWithheld (ap objects_of (sym pick_writes)) a.1)
