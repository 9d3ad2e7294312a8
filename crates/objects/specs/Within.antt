-- The laws of tags and objects as pieces of a list: what stands at the start of some bytes stands within them.
use Rattle.std.specs.Prelude.{ℕ, ◌+◌, ◌≤◌, ◌≡◌, Bool, true, false, cond, refl, List, [], ◌∷◌, length, drop, leb, eqb, ltb, suc, Option, Some, None, Ok}
use native.Mathlib.Omega.{arith}
use lib.ListN.{length-drop}
use borrow.Author.Tests.{leb-true}
use Rattle.answer.specs.declared.refusal.Refusal.TheVariants.{NoTag, CutValue}
use Rattle.objects.specs.declared.forms.Form.{Form}
use Rattle.objects.specs.Tag.{bad_first, calls_for_more, size_of_two, tag_size}
use Rattle.objects.specs.LengthForm.{form_at, size_in, value_in}
use Rattle.objects.specs.Object.{form_refusal, object_refusal, unless, read_of, whole_in, object_size}

pub tag_within : (xs : List ℕ) → tag_size xs ≤ length xs
unfolding tag_size size_of_two
tag_within [] = omega arith
tag_within (a ∷ xs) = first (bad_first a) (calls_for_more a) xs
  where
    second : (u : Bool) (ys : List ℕ) → cond u 2 0 ≤ suc (suc (length ys))
    second true ys = omega arith
    second false ys = omega arith

    first : (s t : Bool) (ys : List ℕ) → cond s 0 (cond t (size_of_two ys) 1) ≤ suc (length ys)
    first true t ys = omega arith
    first false false ys = omega arith
    first false true [] = omega arith
    first false true (b ∷ ys) = second (ltb b 0x80) ys

pub object_within : (xs : List ℕ) → object_size xs ≤ length xs
unfolding object_size read_of object_refusal
object_within xs = cases (eqb (tag_size xs) 0) (form_at (drop (tag_size xs) xs))
  where
    value : (f : Form) (u : Bool) → leb (f.size + f.value) (length (drop (tag_size xs) xs)) ≡ u
        → whole_in (unless (cond u None (Some CutValue)) (Ok (record { tag = tag_size xs; header = tag_size xs + f.size; whole = tag_size xs + f.size + f.value }))) ≤ length xs
    value f true e =
        let l = leb-true (f.size + f.value) (length (drop (tag_size xs) xs)) e in
        let t = tag_within xs in
        omega (arith, simp length-drop at l)
    value f false e = omega arith

    cases : (b : Bool) (o : Option Form)
        → whole_in (unless (cond b (Some NoTag) (form_refusal (length (drop (tag_size xs) xs)) o)) (Ok (record { tag = tag_size xs; header = tag_size xs + size_in o; whole = tag_size xs + size_in o + value_in o }))) ≤ length xs
    cases true o = omega arith
    cases false None = omega arith
    cases false (Some f) = value f (leb (f.size + f.value) (length (drop (tag_size xs) xs))) refl
