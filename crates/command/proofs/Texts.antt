-- The laws of texts in a payload, for walks over them.
use mathlib.Core.Path.{◌≡◌, refl, ap}
use mathlib.Core.Bool.{Bool, true, false, ◌&&◌}
use mathlib.Core.List.{List, [], ◌∷◌}
use Prim.Native.Nat.{ℕ, ◌+◌, ◌≤◌, ◌<◌}
use native.Mathlib.Numerals.{add-one}
use lib.ListN.{length, get_or, drop, drop_of_length-le}
use lib.Seq.{drop-cons}
use lib.Dec.{eqb}
use Rattle.std.specs.List.{starts_with as std_starts}
use Rattle.answer.specs.Digits.{is_text}
use Rattle.command.specs.Texts.{starts, all_text}

-- ---- starting with

pub starts_same : (s p : List ℕ) → std_starts eqb p s ≡ starts s p
unfolding starts
starts_same [] p = refl
starts_same (x ∷ s) [] = refl
starts_same (x ∷ s) (y ∷ p) = ap (λ (t : Bool). eqb x y && t) (starts_same s p)

-- ---- texts

module _ (s : List ℕ) (i : ℕ) (h : i < length s) where
  pub text_by : (t : Bool) → is_text (get_or s i 0) ≡ t → all_text (drop i s) ≡ (t && all_text (drop (i + 1) s))
  unfolding all_text
  text_by t e = rw (drop-cons s i 0 h, add-one, e) refl

  -- the same with what was found before it
  pub text_more : (good : Bool) → (good && all_text (drop i s)) ≡ ((good && is_text (get_or s i 0)) && all_text (drop (i + 1) s))
  text_more true = text_by (is_text (get_or s i 0)) refl
  text_more false = refl

pub text_done : (s : List ℕ) (i : ℕ) → length s ≤ i → all_text (drop i s) ≡ true
unfolding all_text
text_done s i h = simp (drop_of_length-le s {i = i} h)
