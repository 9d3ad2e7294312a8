-- A length form that reads is the one form of its length.
use mathlib.Core.Path.{◌≡◌, refl, sym, ap, ◌∙◌}
use mathlib.Core.Bool.{Bool, true, false, cond}
use mathlib.Core.List.{List, [], ◌∷◌, ◌++◌}
use Prim.Native.Nat.{ℕ, zero, suc, ◌+◌, ◌*◌, ◌/◌, ◌%◌, ◌≤◌, ◌<◌}
use native.Mathlib.Omega.{arith}
use lib.ListN.{get_or, take, drop}
use lib.Dec.{ltb, eqb}
use borrow.Author.Tests.{ltb-true, ltb-false, eqb-true}
use Rattle.std.specs.Prelude.{Option, None}
use Rattle.objects.specs.declared.forms.Form.{Form}
use Rattle.objects.specs.LengthForm.{form, form_of, form_at, after81, after82, size_in, value_in}
use Rattle.objects.specs.Claims.{AllBytes}
use Rattle.objects.proofs.LengthForms.{form_one, form_two, form_three}

-- what is known of each element of a lent slice
pub bytes_known : (xs : List ℕ) → ((i : ℕ) → get_or xs i 0 < 256) → AllBytes xs
bytes_known [] h = tt
bytes_known (x ∷ xs) h = (h 0, bytes_known xs (λ i. h (suc i)))

pub bytes_drop : (n : ℕ) (xs : List ℕ) → AllBytes xs → AllBytes (drop n xs)
bytes_drop zero xs b = b
bytes_drop (suc n) [] b = tt
bytes_drop (suc n) (x ∷ xs) b = bytes_drop n xs b.1

pub bytes_left : (xs ys : List ℕ) → AllBytes (xs ++ ys) → AllBytes xs
bytes_left [] ys b = tt
bytes_left (x ∷ xs) ys b = (b.0, bytes_left xs ys b.1)

pub bytes_right : (xs ys : List ℕ) → AllBytes (xs ++ ys) → AllBytes ys
bytes_right [] ys b = b
bytes_right (x ∷ xs) ys b = bytes_right xs ys b.1

-- ---- the one form

high : (b c : ℕ) → c < 256 → (b * 256 + c) / 256 ≡ b
high b c h = omega arith

low : (b c : ℕ) → c < 256 → (b * 256 + c) % 256 ≡ c
low b c h = omega arith

-- a form that reads is the form of its length, which is at most 65,535
abbrev pub Only : List ℕ → Option Form → Type 0
Only xs f = (f ≡ None → ⊥) → (take (size_in f) xs ≡ form_of (value_in f)) × (value_in f ≤ 65535)

only_81 : (ys : List ℕ) → AllBytes ys → Only (0x81 ∷ ys) (after81 ys)
unfolding after81
only_81 [] h n = absurd (n refl)
only_81 (b ∷ ys) h n = cases (ltb b 0x80) refl n
  where
    cases : (v : Bool) → ltb b 0x80 ≡ v → Only (0x81 ∷ b ∷ ys) (cond v None (form 2 b))
    cases true e n = absurd (n refl)
    cases false e n = let l = h.0 in (sym (form_two b (ltb-false b 0x80 e) l), omega arith)

only_82 : (ys : List ℕ) → AllBytes ys → Only (0x82 ∷ ys) (after82 ys)
unfolding after82
only_82 [] h n = absurd (n refl)
only_82 (b ∷ []) h n = absurd (n refl)
only_82 (b ∷ c ∷ ys) h n = cases (ltb (b * 256 + c) 0x100) refl n
  where
    cases : (v : Bool) → ltb (b * 256 + c) 0x100 ≡ v → Only (0x82 ∷ b ∷ c ∷ ys) (cond v None (form 3 (b * 256 + c)))
    cases true e n = absurd (n refl)
    cases false e n =
        let l = ltb-false (b * 256 + c) 0x100 e in
        let p = h.0 in
        let q = h.1.0 in
        (sym (form_three (b * 256 + c) (omega arith) l ∙ rw (high b c q, low b c q) refl), omega arith)

pub form_only : (xs : List ℕ) → AllBytes xs → Only xs (form_at xs)
unfolding form_at
form_only [] h n = absurd (n refl)
form_only (a ∷ ys) h n = short (ltb a 0x80) refl n
  where
    last : (u : Bool) → eqb a 0x82 ≡ u → Only (a ∷ ys) (cond u (after82 ys) None)
    last true e n = let q = eqb-true a 0x82 e in (ap (λ (x : ℕ). take (size_in (after82 ys)) (x ∷ ys)) q ∙ (only_82 ys h.1 n).0, (only_82 ys h.1 n).1)
    last false e n = absurd (n refl)

    long : (t : Bool) → eqb a 0x81 ≡ t → Only (a ∷ ys) (cond t (after81 ys) (cond (eqb a 0x82) (after82 ys) None))
    long true e n = let q = eqb-true a 0x81 e in (ap (λ (x : ℕ). take (size_in (after81 ys)) (x ∷ ys)) q ∙ (only_81 ys h.1 n).0, (only_81 ys h.1 n).1)
    long false e n = last (eqb a 0x82) refl n

    short : (s : Bool) → ltb a 0x80 ≡ s → Only (a ∷ ys) (cond s (form 1 a) (cond (eqb a 0x81) (after81 ys) (cond (eqb a 0x82) (after82 ys) None)))
    short true e n = let l = ltb-true a 0x80 e in (sym (form_one a l), omega arith)
    short false e n = long (eqb a 0x81) refl n
