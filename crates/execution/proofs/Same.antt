-- The library's comparison of slices is that of the definitions.
use mathlib.Core.Path.{◌≡◌, refl, sym, ap, ◌∙◌}
use mathlib.Core.Bool.{Bool, true, false, ◌&&◌, ◌||◌}
use mathlib.Core.List.{List, [], ◌∷◌}
use Prim.Native.Nat.{ℕ}
use lib.ListN.{length}
use lib.Dec.{eqb}
use Rattle.std.proofs.Math.Dec.{eqb-zero-suc, eqb-suc-suc}
use Rattle.std.specs.List.{list_any}
use Rattle.std.specs.Cmp.Lexicographic.{pointwise}
use Rattle.command.specs.Texts.{starts}
use Rattle.execution.specs.CommandTable.{same}
use Rattle.execution.specs.Responses.{one_of}

and_swap : (a b c : Bool) → (a && (b && c)) ≡ (b && (a && c))
and_swap true b c = refl
and_swap false true c = refl
and_swap false false c = refl

and_none : (a : Bool) → (a && false) ≡ false
and_none true = refl
and_none false = refl

pub same_is : (a b : List ℕ) → pointwise eqb a b ≡ same a b
unfolding same starts
same_is [] [] = refl
same_is [] (y ∷ b) = rw (eqb-zero-suc (length b)) refl
same_is (x ∷ a) [] = sym (and_none (eqb (length (x ∷ a)) 0))
same_is (x ∷ a) (y ∷ b) =
    ap (λ (t : Bool). eqb x y && t) (same_is a b) ∙ and_swap (eqb x y) (eqb (length a) (length b)) (starts a b)
    ∙ ap (λ (t : Bool). t && (eqb x y && starts a b)) (sym (eqb-suc-suc (length a) (length b)))

-- and so a search through texts
pub any_is : (p : List ℕ) (qs : List (List ℕ)) → list_any (λ q. pointwise eqb q p) qs ≡ one_of p qs
unfolding one_of
any_is p [] = refl
any_is p (q ∷ qs) = rw (same_is q p) (ap (λ (t : Bool). same q p || t) (any_is p qs))
