-- Equal bytes: what the test says, and an object whose tag is sought.
use mathlib.Core.Path.{◌≡◌, refl, sym, ap, ◌∙◌}
use mathlib.Core.Bool.{Bool, true, false, cond, ◌&&◌, false≢true, true≢false}
use mathlib.Core.List.{List, [], ◌∷◌, ◌++◌}
use Prim.Native.Nat.{ℕ, suc, ◌≤◌, ◌<◌}
use native.Mathlib.Omega.{arith}
use lib.ListN.{length, take, drop, get_or, take-append-drop, length-take}
use lib.Seq.{length-take-le}
use lib.Dec.{eqb, ltb}
use borrow.Author.Tests.{eq-eqb, eqb-true}
use Rattle.std.proofs.Common.{Bor}
use Rattle.std.specs.List.{find}
use Rattle.std.specs.Option.{option_map, unwrap_or}
use Rattle.std.specs.Prelude.{Option, Some, None, Result, Ok}
use Rattle.answer.specs.declared.refusal.Refusal.{Refusal}
use Rattle.answer.proofs.Parts.{and_left, and_right, and_true, and_false}
use Rattle.objects.specs.Tag.{bad_first, calls_for_more, size_of_two, tag_size, is_tag}
use Rattle.objects.specs.declared.ObjectRead.{ObjectRead}
use Rattle.objects.specs.Object.{object_in, read_of}
use Rattle.objects.specs.Within.{tag_within}
use Rattle.objects.proofs.TagSizes.{tag_append}
use Rattle.objects.proofs.Reading.{read_is}
use Rattle.objects.proofs.RoundTrip.{tag_fit}
use Rattle.picking.specs.Pick.{same, is_withheld}
use Rattle.picking.specs.Claims.{first_piece}

pub same_true : (xs ys : List ℕ) → same xs ys ≡ true → xs ≡ ys
unfolding same
same_true [] [] e = refl
same_true [] (y ∷ ys) e = absurd (false≢true e)
same_true (x ∷ xs) [] e = absurd (false≢true e)
same_true (x ∷ xs) (y ∷ ys) e =
    let h = eqb-true x y (and_left (eqb x y) (same xs ys) e) in
    let t = same_true xs ys (and_right (eqb x y) (same xs ys) e) in
    rw (h, t) refl

pub same_refl : (xs : List ℕ) → same xs xs ≡ true
unfolding same
same_refl [] = refl
same_refl (x ∷ xs) = rw (eq-eqb x x refl) (same_refl xs)

-- ---- no tag is the start of another

module _ (t p : List ℕ) where
  -- an object that starts with a tag has this tag
  pub starts_same : is_tag t ≡ true → take (length t) p ≡ t → (object_in p).tag ≡ t
  unfolding object_in
  starts_same e h =
      let f = tag_fit t e in
      let s : t ++ drop (length t) p ≡ p = ap (λ (l : List ℕ). l ++ drop (length t) p) (sym h) ∙ take-append-drop (length t) p in
      let n : tag_size p ≡ length t = ap tag_size (sym s) ∙ tag_append t (drop (length t) p) f.1 ∙ f.0 in
      ap (λ (k : ℕ). take k p) n ∙ h

  -- and an object that has this tag starts with it
  pub same_starts : (object_in p).tag ≡ t → take (length t) p ≡ t
  unfolding object_in
  same_starts h =
      let n : tag_size p ≡ length t = sym (length-take-le (tag_size p) p (tag_within p)) ∙ ap length h in
      ap (λ (k : ℕ). take k p) (sym n) ∙ h

-- ---- an object has the tag that it starts with, by the tests of the code

pub same_length : (xs ys : List ℕ) → (length xs ≡ length ys → ⊥) → same xs ys ≡ false
unfolding same
same_length [] [] h = absurd (h refl)
same_length [] (y ∷ ys) h = refl
same_length (x ∷ xs) [] h = refl
same_length (x ∷ xs) (y ∷ ys) h = simp (same_length xs ys (λ e. h (ap suc e)), and_false (eqb x y))

start_one : (t p : List ℕ) → length t ≡ 1 → 1 ≤ length p → same t (take (length t) p) ≡ eqb (get_or t 0 0) (get_or p 0 0)
unfolding same
start_one (a ∷ []) (b ∷ p) h k = and_true (eqb a b)
start_one [] p h k = absurd (omega arith)
start_one (a ∷ []) [] h k = absurd (omega arith)
start_one (a ∷ d ∷ t) p h k = absurd (omega arith)

start_two : (t p : List ℕ) → length t ≡ 2 → 2 ≤ length p → same t (take (length t) p) ≡ (eqb (get_or t 0 0) (get_or p 0 0) && eqb (get_or t 1 0) (get_or p 1 0))
unfolding same
start_two (a ∷ c ∷ []) (b ∷ d ∷ p) h k = ap (λ (e : Bool). eqb a b && e) (and_true (eqb c d))
start_two [] p h k = absurd (omega arith)
start_two (a ∷ []) p h k = absurd (omega arith)
start_two (a ∷ c ∷ []) [] h k = absurd (omega arith)
start_two (a ∷ c ∷ []) (b ∷ []) h k = absurd (omega arith)
start_two (a ∷ c ∷ e ∷ t) p h k = absurd (omega arith)

tag_short : (xs : List ℕ) → tag_size xs ≤ 2
unfolding tag_size size_of_two
tag_short [] = omega arith
tag_short (a ∷ xs) = first (bad_first a) (calls_for_more a) xs
  where
    second : (u : Bool) → cond u 2 0 ≤ 2
    second true = omega arith
    second false = omega arith

    first : (s t : Bool) (ys : List ℕ) → cond s 0 (cond t (size_of_two ys) 1) ≤ 2
    first true t ys = omega arith
    first false false ys = omega arith
    first false true [] = omega arith
    first false true (b ∷ ys) = second (ltb b 0x80)

-- a tag has one byte or two
pub one_or_two : (t : List ℕ) → is_tag t ≡ true → (1 ≤ length t) × (length t ≤ 2)
one_or_two t e =
    let f = tag_fit t e in
    let i = f.0 in
    let m = tag_short t in
    let n : length t ≡ 0 → ⊥ = λ z. f.1 (i ∙ z) in
    (omega arith, omega arith)

module _ (t p : List ℕ) (e : is_tag t ≡ true) where
  pub has_start : same t (object_in p).tag ≡ same t (take (length t) p)
  has_start = cases (same t (object_in p).tag) (same t (take (length t) p)) refl refl
    where
      cases : (a b : Bool) → same t (object_in p).tag ≡ a → same t (take (length t) p) ≡ b → a ≡ b
      cases true true h k = refl
      cases false false h k = refl
      cases true false h k = absurd (true≢false (sym (ap (same t) (same_starts t p (sym (same_true t (object_in p).tag h))) ∙ same_refl t) ∙ k))
      cases false true h k = absurd (false≢true (sym h ∙ ap (same t) (starts_same t p e (sym (same_true t (take (length t) p) k))) ∙ same_refl t))

  pub has_one : length t ≡ 1 → 1 ≤ length p → same t (object_in p).tag ≡ eqb (get_or t 0 0) (get_or p 0 0)
  has_one h k = has_start ∙ start_one t p h k

  pub has_two : length t ≡ 2 → 2 ≤ length p → same t (object_in p).tag ≡ (eqb (get_or t 0 0) (get_or p 0 0) && eqb (get_or t 1 0) (get_or p 1 0))
  has_two h k = has_start ∙ start_two t p h k

  pub has_not : length p < length t → same t (object_in p).tag ≡ false
  has_not h = has_start ∙ same_length t (take (length t) p) (λ l. let m = length-take (length t) p in omega arith)

-- an object that was read with a tag of another size has another tag
pub has_other : (t p : List ℕ) (r : ObjectRead) → (let a : Result ObjectRead Refusal = Ok r in a) ≡ read_of p → (r.tag ≡ length t → ⊥) → same t (object_in p).tag ≡ false
unfolding object_in
has_other t p r e h =
    let i : r.tag ≡ tag_size p = ap (λ (x : ObjectRead). x.tag) (read_is p r e) in
    let l = length-take-le (tag_size p) p (tag_within p) in
    same_length t (take (tag_size p) p) (λ m. h (omega arith))

-- ---- what is shown for a tag

pub shown_none : (t : List ℕ) (ps : List (List ℕ)) → is_withheld t ≡ true → first_piece t ps ≡ []
unfolding first_piece
shown_none t [] w = refl
shown_none t (p ∷ ps) w = cases (same t (object_in p).tag) refl (shown_none t ps w)
  where
    cases : (b : Bool) → same t (object_in p).tag ≡ b → first_piece t ps ≡ [] → cond b (cond (is_withheld (object_in p).tag) [] p) (first_piece t ps) ≡ []
    cases false e ih = ih
    cases true e ih = let i = same_true t (object_in p).tag e in simp (ap is_withheld (sym i) ∙ w)

pub long_shown : (t : List ℕ) → 2 ≤ length t → is_withheld t ≡ false
unfolding is_withheld same
long_shown [] h = absurd (omega arith)
long_shown (x ∷ []) h = absurd (omega arith)
long_shown (x ∷ y ∷ t) h = simp (and_false (eqb x 0x56), and_false (eqb x 0x57), and_false (eqb x 0x5a))

-- the bytes of what is found, or none
pub now_or : (r : Option (Bor (List ℕ))) (d : Bor (List ℕ)) → d.now ≡ [] → (unwrap_or r d).now ≡ unwrap_or (option_map (λ (x : Bor (List ℕ)). x.now) r) []
now_or None d e = e
now_or (Some x) d e = refl

-- the first object with a tag that is not withheld
pub shown_first : (t : List ℕ) → is_withheld t ≡ false → (ps : List (List ℕ)) → unwrap_or (find (λ p. same t (object_in p).tag) ps) [] ≡ first_piece t ps
unfolding first_piece
shown_first t w [] = refl
shown_first t w (p ∷ ps) = cases (same t (object_in p).tag) refl (shown_first t w ps)
  where
    cases : (b : Bool) → same t (object_in p).tag ≡ b → unwrap_or (find (λ q. same t (object_in q).tag) ps) [] ≡ first_piece t ps
        → unwrap_or (cond b (Some p) (find (λ q. same t (object_in q).tag) ps)) [] ≡ cond b (cond (is_withheld (object_in p).tag) [] p) (first_piece t ps)
    cases false h ih = ih
    cases true h ih = let n = ap is_withheld (sym (same_true t (object_in p).tag h)) ∙ w in sym (simp n)
