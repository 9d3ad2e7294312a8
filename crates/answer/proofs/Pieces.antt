-- The laws of pieces, for any size function: a walk over them, and there and back.
use mathlib.Core.Path.{◌≡◌, refl, sym, ap, ◌∙◌}
use mathlib.Core.Bool.{true, false, false≢true}
use mathlib.Core.List.{List, [], ◌∷◌, ◌++◌, flatten}
use Prim.Native.Nat.{ℕ, zero, suc, pred, ◌+◌, ◌-◌, ◌≤◌, ◌<◌}
use native.Mathlib.Omega.{arith}
use lib.ListN.{length, take, drop, length-append, length-take, length-drop, take-append-drop}
use lib.Seq.{drop-drop, take_at, drop_at, length-take-le}
use Rattle.answer.specs.Pieces.{piece_then, pieces_from, pieces, rest_then, rest_from, rest, is_none, whole}
use Rattle.answer.specs.Claims.{AllPieces}

-- ---- what is left, as a test

pub none_true : (xs : List ℕ) → is_none xs ≡ true → xs ≡ []
none_true [] e = refl
none_true (x ∷ xs) e = absurd (false≢true e)

pub none_false : (xs : List ℕ) → 0 < length xs → is_none xs ≡ false
none_false [] h = absurd (omega arith)
none_false (x ∷ xs) h = refl

-- ---- sizes that reach no further than the list

module _ (size : List ℕ → ℕ) (le : (xs : List ℕ) → size xs ≤ length xs) where
  skip : (k : ℕ) (xs : List ℕ) → pieces_from size k xs ≡ pieces size (drop k xs)
  unfolding pieces_from
  skip zero xs = refl
  skip (suc k) [] = refl
  skip (suc k) (x ∷ xs) = skip k xs

  skip_rest : (k : ℕ) (xs : List ℕ) → rest_from size k xs ≡ rest size (drop k xs)
  unfolding rest_from
  skip_rest zero xs = refl
  skip_rest (suc k) [] = refl
  skip_rest (suc k) (x ∷ xs) = skip_rest k xs

  pub size_nil : size [] ≡ 0
  size_nil = let h : size [] ≤ 0 = le [] in omega arith

  -- the first piece, and those after it
  pub pieces_cons : (xs : List ℕ) (n : ℕ) → size xs ≡ n → (n ≡ 0 → ⊥) → pieces size xs ≡ take n xs ∷ pieces size (drop n xs)
  unfolding pieces_from
  pieces_cons xs zero e h = absurd (h refl)
  pieces_cons [] (suc n) e h = absurd (h (sym e ∙ size_nil))
  pieces_cons (x ∷ xs) (suc n) e h = rw e (ap (λ (r : List (List ℕ)). take (suc n) (x ∷ xs) ∷ r) (skip n xs))

  pub pieces_stop : (xs : List ℕ) → size xs ≡ 0 → pieces size xs ≡ []
  unfolding pieces_from
  pieces_stop [] e = refl
  pieces_stop (x ∷ xs) e = rw e

  pub rest_cons : (xs : List ℕ) (n : ℕ) → size xs ≡ n → (n ≡ 0 → ⊥) → rest size xs ≡ rest size (drop n xs)
  unfolding rest_from
  rest_cons xs zero e h = absurd (h refl)
  rest_cons [] (suc n) e h = absurd (h (sym e ∙ size_nil))
  rest_cons (x ∷ xs) (suc n) e h = rw e (skip_rest n xs)

  pub rest_same : (xs : List ℕ) → size xs ≡ 0 → rest size xs ≡ xs
  unfolding rest_from
  rest_same [] e = refl
  rest_same (x ∷ xs) e = rw e refl

  -- ---- a walk: at a place a piece of n bytes stands

  module _ (xs : List ℕ) (at n : ℕ) (e : n ≡ size (drop at xs)) where
    pub piece_more : (n ≡ 0 → ⊥) → pieces size (drop at xs) ≡ take n (drop at xs) ∷ pieces size (drop (at + n) xs)
    piece_more h = pieces_cons (drop at xs) n (sym e) h ∙ ap (λ (l : List ℕ). take n (drop at xs) ∷ pieces size l) (drop-drop n at xs)

    pub piece_none : n ≡ 0 → pieces size (drop at xs) ≡ []
    piece_none z = pieces_stop (drop at xs) (sym e ∙ z)

    pub rest_stop : n ≡ 0 → rest size (drop at xs) ≡ drop at xs
    rest_stop z = rest_same (drop at xs) (sym e ∙ z)

    -- a whole list has a piece wherever it has a byte
    pub some : at < length xs → rest size (drop at xs) ≡ [] → n ≡ 0 → ⊥
    some h w z = let l = ap length (sym (rest_stop z) ∙ w) in omega (arith, simp length-drop at l)

    pub within : at ≤ length xs → at + n ≤ length xs
    within h = let l = le (drop at xs) in omega (arith, e, simp length-drop at l)

    pub whole_stop : n ≡ 0 → at < length xs → whole size (drop at xs) ≡ false
    whole_stop z h = ap is_none (rest_stop z) ∙ none_false (drop at xs) (simp length-drop (omega arith))

  -- ---- how much there is of them

  pub from_le : (k : ℕ) (xs : List ℕ) → length (flatten (pieces_from size k xs)) ≤ length xs - k
  unfolding pieces_from flatten
  from_le zero [] = omega arith
  from_le (suc k) [] = omega arith
  from_le (suc k) (x ∷ xs) = let h = from_le k xs in omega arith
  from_le zero (x ∷ xs) = cases (size (x ∷ xs)) (le (x ∷ xs)) (λ k. from_le k xs)
    where
      cases : (n : ℕ) → n ≤ suc (length xs) → ((k : ℕ) → length (flatten (pieces_from size k xs)) ≤ length xs - k) → length (flatten (piece_then n (x ∷ xs) (pieces_from size (pred n) xs))) ≤ suc (length xs) - 0
      cases zero h ih = omega arith
      cases (suc n) h ih =
          let i = ih n in
          let t : length (take n xs) ≤ n = simp length-take (omega arith) in
          rw (length-append (take (suc n) (x ∷ xs)) (flatten (pieces_from size n xs))) (omega arith)

  pub count_le : (k : ℕ) (xs : List ℕ) → length (pieces_from size k xs) ≤ length xs - k
  unfolding pieces_from
  count_le zero [] = omega arith
  count_le (suc k) [] = omega arith
  count_le (suc k) (x ∷ xs) = let h = count_le k xs in omega arith
  count_le zero (x ∷ xs) = cases (size (x ∷ xs)) (le (x ∷ xs)) (λ k. count_le k xs)
    where
      cases : (n : ℕ) → n ≤ suc (length xs) → ((k : ℕ) → length (pieces_from size k xs) ≤ length xs - k) → length (piece_then n (x ∷ xs) (pieces_from size (pred n) xs)) ≤ suc (length xs) - 0
      cases zero h ih = omega arith
      cases (suc n) h ih = let i = ih n in omega arith

  -- ---- back to bytes

  flat_from : (k : ℕ) (xs : List ℕ) → rest_from size k xs ≡ [] → flatten (pieces_from size k xs) ≡ drop k xs
  unfolding pieces_from rest_from flatten
  flat_from zero [] w = refl
  flat_from (suc k) [] w = refl
  flat_from (suc k) (x ∷ xs) w = flat_from k xs w
  flat_from zero (x ∷ xs) w = cases (size (x ∷ xs)) w (λ k v. flat_from k xs v)
    where
      cases : (n : ℕ) → rest_then n (x ∷ xs) (rest_from size (pred n) xs) ≡ [] → ((k : ℕ) → rest_from size k xs ≡ [] → flatten (pieces_from size k xs) ≡ drop k xs)
          → flatten (piece_then n (x ∷ xs) (pieces_from size (pred n) xs)) ≡ x ∷ xs
      cases zero v ih = sym v
      cases (suc n) v ih = ap (λ (l : List ℕ). x ∷ (take n xs ++ l)) (ih n v) ∙ ap (λ (l : List ℕ). x ∷ l) (take-append-drop n xs)

  -- a list of which nothing is left is the bytes of its pieces
  pub flatten_pieces : (xs : List ℕ) → rest size xs ≡ [] → flatten (pieces size xs) ≡ xs
  flatten_pieces xs w = flat_from 0 xs w

  -- where the pieces stop, none stands
  rest_none_from : (k : ℕ) (xs : List ℕ) → size (rest_from size k xs) ≡ 0
  unfolding rest_from
  rest_none_from zero [] = size_nil
  rest_none_from (suc k) [] = size_nil
  rest_none_from (suc k) (x ∷ xs) = rest_none_from k xs
  rest_none_from zero (x ∷ xs) = cases (size (x ∷ xs)) refl (λ k. rest_none_from k xs)
    where
      cases : (n : ℕ) → size (x ∷ xs) ≡ n → ((k : ℕ) → size (rest_from size k xs) ≡ 0) → size (rest_then n (x ∷ xs) (rest_from size (pred n) xs)) ≡ 0
      cases zero e ih = e
      cases (suc n) e ih = ih n

  pub rest_none : (xs : List ℕ) → size (rest size xs) ≡ 0
  rest_none xs = rest_none_from 0 xs

-- ---- pieces that are given

pub all_append : (size : List ℕ → ℕ) (a b : List (List ℕ)) → AllPieces size (a ++ b) → AllPieces size a × AllPieces size b
all_append size [] b h = (tt, h)
all_append size (s ∷ a) b h = let r = all_append size a b h.2 in ((h.0, h.1, r.0), r.1)

-- a piece is within its list, does not hang on what stands after it, and is one by itself too
pub record Sizes (size : List ℕ → ℕ) : Type 0 where
  pub le : (xs : List ℕ) → size xs ≤ length xs
  pub append : (xs ys : List ℕ) → (size xs ≡ 0 → ⊥) → size (xs ++ ys) ≡ size xs
  pub alone : (xs : List ℕ) → (size xs ≡ 0 → ⊥) → size (take (size xs) xs) ≡ size xs

module _ (size : List ℕ → ℕ) (s : Sizes size) where
  -- the bytes of pieces have these pieces
  pub pieces_flatten : (ps : List (List ℕ)) → AllPieces size ps → pieces size (flatten ps) ≡ ps
  unfolding pieces_from flatten
  pieces_flatten [] a = refl
  pieces_flatten (p ∷ ps) a =
      pieces_cons size s.le (p ++ flatten ps) (length p) (s.append p (flatten ps) (λ z. a.1 (sym a.0 ∙ z)) ∙ a.0) a.1
      ∙ rw (take_at p (flatten ps) (length p) refl, drop_at p (flatten ps) (length p) refl) (ap (λ (l : List (List ℕ)). p ∷ l) (pieces_flatten ps a.2))

  -- and nothing is left of them
  pub rest_flatten : (ps : List (List ℕ)) → AllPieces size ps → rest size (flatten ps) ≡ []
  unfolding rest_from flatten
  rest_flatten [] a = refl
  rest_flatten (p ∷ ps) a =
      rest_cons size s.le (p ++ flatten ps) (length p) (s.append p (flatten ps) (λ z. a.1 (sym a.0 ∙ z)) ∙ a.0) a.1
      ∙ rw (drop_at p (flatten ps) (length p) refl) (rest_flatten ps a.2)

  all_from : (k : ℕ) (xs : List ℕ) → AllPieces size (pieces_from size k xs)
  unfolding pieces_from
  all_from zero [] = tt
  all_from (suc k) [] = tt
  all_from (suc k) (x ∷ xs) = all_from k xs
  all_from zero (x ∷ xs) = cases (size (x ∷ xs)) refl (λ k. all_from k xs)
    where
      cases : (n : ℕ) → size (x ∷ xs) ≡ n → ((k : ℕ) → AllPieces size (pieces_from size k xs)) → AllPieces size (piece_then n (x ∷ xs) (pieces_from size (pred n) xs))
      cases zero e ih = tt
      cases (suc n) e ih =
          let l = s.le (x ∷ xs) in
          let len : length (take (suc n) (x ∷ xs)) ≡ suc n = length-take-le (suc n) (x ∷ xs) (omega arith) in
          let pos : size (x ∷ xs) ≡ 0 → ⊥ = λ z. omega arith in
          (ap (λ (m : ℕ). size (take m (x ∷ xs))) (sym e) ∙ s.alone (x ∷ xs) pos ∙ e ∙ sym len, (λ z. omega arith), ih n)

  -- the pieces of a list are pieces
  pub all_pieces : (xs : List ℕ) → AllPieces size (pieces size xs)
  all_pieces xs = all_from 0 xs
