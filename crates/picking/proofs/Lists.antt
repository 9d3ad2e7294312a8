-- Tag lists and object lists: what is wrong with them, and how the code finds it.
use mathlib.Core.Path.{◌≡◌, refl, sym, ap, ◌∙◌}
use mathlib.Core.Bool.{true, false, true≢false}
use mathlib.Core.List.{List, [], ◌∷◌}
use Prim.Native.Nat.{ℕ, ◌<◌}
use native.Mathlib.Omega.{arith}
use native.Mathlib.Nat.{le_refl}
use lib.ListN.{length}
use borrow.Author.Tests.{eq-eqb}
use Rattle.std.specs.Prelude.{Option, Some, None, Result, Ok, Err}
use Rattle.answer.specs.declared.refusal.Refusal.{Refusal}
use Rattle.answer.specs.declared.refusal.Refusal.TheVariants.{NoTag}
use Rattle.answer.specs.Pieces.{rest, is_none, whole}
use Rattle.answer.proofs.Pieces.{Sizes, rest_none, none_true}
use Rattle.objects.specs.declared.ObjectRead.{ObjectRead}
use Rattle.objects.specs.Tag.{tag_size}
use Rattle.objects.specs.Object.{object_refusal, object_size, read_of}
use Rattle.objects.specs.Within.{tag_within, object_within}
use Rattle.objects.proofs.TagSizes.{tag_append, tag_take}
use Rattle.objects.proofs.Objects.{size_append, size_take, size_refusal, size_some}
use Rattle.objects.proofs.Reading.{read_right, read_refused}
use Rattle.picking.specs.Lists.{fault_in, objects_refusal, tag_refusal, tags_refusal}

pub tag_sizes : Sizes tag_size
tag_sizes = record { le = tag_within; append = tag_append; alone = λ xs h. tag_take xs (tag_size xs) (le_refl (tag_size xs)) }

pub object_sizes : Sizes object_size
object_sizes = record { le = object_within; append = size_append; alone = λ xs h. size_take xs (size_refusal xs h) }

-- ---- what is wrong with a list

fault_here : (refusal : List ℕ → Option Refusal) (ys : List ℕ) → 0 < length ys → fault_in refusal ys ≡ refusal ys
fault_here refusal [] h = absurd (omega arith)
fault_here refusal (y ∷ ys) h = refl

-- where a size is 0 something is wrong, so a list with nothing wrong is whole
whole_if : (refusal : List ℕ → Option Refusal) (size : List ℕ → ℕ) → ((ys : List ℕ) → refusal ys ≡ None → size ys ≡ 0 → ⊥) → (ys : List ℕ) → size ys ≡ 0
    → fault_in refusal ys ≡ None → ys ≡ []
whole_if refusal size h [] z e = refl
whole_if refusal size h (y ∷ ys) z e = absurd (h (y ∷ ys) e z)

tag_wrong : (xs : List ℕ) → tag_size xs ≡ 0 → tag_refusal xs ≡ Some NoTag
tag_wrong xs e = simp (eq-eqb (tag_size xs) 0 e)

tag_right : (xs : List ℕ) → tag_refusal xs ≡ None → tag_size xs ≡ 0 → ⊥
tag_right xs e z = let w = sym (tag_wrong xs z) ∙ e in absurd cc

pub tags_whole : (xs : List ℕ) → tags_refusal xs ≡ None → rest tag_size xs ≡ []
tags_whole xs e = whole_if tag_refusal tag_size tag_right (rest tag_size xs) (rest_none tag_size tag_within xs) e

pub objects_whole : (xs : List ℕ) → objects_refusal xs ≡ None → rest object_size xs ≡ []
objects_whole xs e = whole_if object_refusal object_size size_some (rest object_size xs) (rest_none object_size object_within xs) e

-- ---- the steps of the code

pub tags_good : (xs : List ℕ) → whole tag_size xs ≡ true → tags_refusal xs ≡ None
tags_good xs w = ap (fault_in tag_refusal) (none_true (rest tag_size xs) w)

pub tags_bad : (xs : List ℕ) → whole tag_size xs ≡ false → tags_refusal xs ≡ Some NoTag
tags_bad xs w = cases (rest tag_size xs) w (rest_none tag_size tag_within xs)
  where
    cases : (ys : List ℕ) → is_none ys ≡ false → tag_size ys ≡ 0 → fault_in tag_refusal ys ≡ Some NoTag
    cases [] n z = absurd (true≢false n)
    cases (y ∷ ys) n z = tag_wrong (y ∷ ys) z

module _ (xs left : List ℕ) (e : left ≡ rest object_size xs) where
  pub objects_good : length left ≡ 0 → objects_refusal xs ≡ None
  objects_good h = cases (rest object_size xs) (ap length (sym e) ∙ h)
    where
      cases : (ys : List ℕ) → length ys ≡ 0 → fault_in object_refusal ys ≡ None
      cases [] n = refl
      cases (y ∷ ys) n = absurd (omega arith)

  pub objects_bad : (w : Refusal) → (length left ≡ 0 → ⊥) → (let a : Result ObjectRead Refusal = Err w in a) ≡ read_of left → objects_refusal xs ≡ Some w
  objects_bad w h r = ap (fault_in object_refusal) (sym e) ∙ fault_here object_refusal left (omega arith) ∙ read_refused left w r

  -- what is left is no object
  pub objects_no : (r : ObjectRead) → (let a : Result ObjectRead Refusal = Ok r in a) ≡ read_of left → ⊥
  objects_no r h = size_some left (read_right left r h) (ap object_size e ∙ rest_none object_size object_within xs)
