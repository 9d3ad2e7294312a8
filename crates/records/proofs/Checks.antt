-- The laws of checking: a walk over records that are counted, and zeros after them.
use mathlib.Core.Path.{◌≡◌, refl, sym, ap, ◌∙◌}
use mathlib.Core.Bool.{Bool, true, false, ◌&&◌, cond, true≢false, false≢true}
use mathlib.Core.List.{List, [], ◌∷◌, flatten}
use Prim.Native.Nat.{ℕ, zero, suc, pred, ◌+◌, ◌-◌, ◌≤◌, ◌<◌}
use native.Mathlib.Omega.{arith}
use native.Mathlib.Numerals.{add-one}
use lib.ListN.{length, get_or, take, drop, length-append, drop_of_length-le}
use lib.Seq.{drop-cons, length-take-le}
use lib.Dec.{leb, eqb, eqb-suc-zero}
use lib.Bits.{bit_or, or_zero_l, or_add_and, and_le_r}
use borrow.Author.Tests.{eq-eqb, ne_eqb, le-leb}
use Rattle.std.specs.Prelude.{Option, Some, None}
use Rattle.answer.specs.Digits.{is_digit, two_digits_at, two_in}
use Rattle.answer.specs.Pieces.{piece_then, pieces_from, rest_then, rest_from, rest, is_none, whole, every}
use Rattle.answer.proofs.Pieces.{from_le, count_le}
use Rattle.records.specs.Record.{record_in, recs, good_block}
use Rattle.records.specs.Within.{record_le}
use Rattle.records.specs.Store.{all_zero}
use Rattle.records.specs.Steps.{passes, records_good}
use Rattle.answer.proofs.Parts.{and_true, and_false, and_join, rest_part}

-- ---- zeros

or_zero : (a b : ℕ) → eqb (bit_or a b) 0 ≡ (eqb a 0 && eqb b 0)
or_zero zero b = ap (λ (n : ℕ). eqb n 0) (or_zero_l b)
or_zero (suc a) b =
    let ne : eqb (suc a) 0 ≡ false = eqb-suc-zero a in
    ne_eqb (bit_or (suc a) b) 0 (λ e. omega (arith, e, or_add_and (suc a) b, and_le_r (suc a) b)) ∙ simp ne

pub zero_more : (s : List ℕ) (joined i : ℕ) → i < length s → (eqb joined 0 && all_zero (drop i s)) ≡ (eqb (bit_or joined (get_or s i 0)) 0 && all_zero (drop (i + 1) s))
unfolding all_zero
zero_more s joined i h =
    rw (add-one, drop-cons s i 0, or_zero) (and_join (eqb joined 0) (eqb (get_or s i 0) 0) (all_zero (drop (suc i) s)))

pub zero_done : (s : List ℕ) (joined i : ℕ) → length s ≤ i → eqb joined 0 ≡ (eqb joined 0 && all_zero (drop i s))
unfolding all_zero
zero_done s joined i h = rw (drop_of_length-le s {i = i} h) (sym (and_true (eqb joined 0)))

pub zero_past : (s : List ℕ) (i : ℕ) → length s ≤ i → true ≡ all_zero (drop i s)
unfolding all_zero
zero_past s i h = rw (drop_of_length-le s {i = i} h) refl

-- ---- records that are counted, with their bytes

-- the bytes of the records, and those that are left, are all
counted_from : (k : ℕ) (xs : List ℕ) → length (flatten (pieces_from record_in k xs)) + length (rest_from record_in k xs) ≡ length xs - k
unfolding pieces_from rest_from flatten
counted_from zero [] = refl
counted_from (suc k) [] = omega arith
counted_from (suc k) (x ∷ xs) = counted_from k xs ∙ omega arith
counted_from zero (x ∷ xs) = cases (record_in (x ∷ xs)) (record_le (x ∷ xs)) (λ k. counted_from k xs)
  where
    cases : (n : ℕ) → n ≤ suc (length xs) → ((k : ℕ) → length (flatten (pieces_from record_in k xs)) + length (rest_from record_in k xs) ≡ length xs - k)
        → length (flatten (piece_then n (x ∷ xs) (pieces_from record_in (pred n) xs))) + length (rest_then n (x ∷ xs) (rest_from record_in (pred n) xs)) ≡ suc (length xs) - 0
    cases zero h ih = omega arith
    cases (suc n) h ih =
        let i = ih n in
        let t : length (take n xs) ≡ n = length-take-le n xs (omega arith) in
        rw (length-append (take (suc n) (x ∷ xs)) (flatten (pieces_from record_in n xs))) (omega arith)

none_is : (xs : List ℕ) (n m : ℕ) → n + length xs ≡ m → is_none xs ≡ eqb n m
none_is [] n m e = sym (eq-eqb n m (omega arith))
none_is (x ∷ xs) n m e = sym (ne_eqb n m (λ z. omega arith))

whole_is : (xs : List ℕ) → whole record_in xs ≡ eqb (length (flatten (recs xs))) (length xs)
whole_is xs = none_is (rest record_in xs) (length (flatten (recs xs))) (length xs) (counted_from 0 xs ∙ omega arith)

module _ (network : Option ℕ) (records : ℕ) (bytes left : List ℕ) (seen count : ℕ)
    (is_seen : seen + length (flatten (recs left)) ≡ length (flatten (recs bytes))) (is_count : count + length (recs left) ≡ length (recs bytes))
    (is_every : every (passes network) (recs bytes) ≡ every (passes network) (recs left)) where
  pub good_end : recs left ≡ [] → (eqb seen (length bytes) && eqb count records) ≡ records_good network records bytes
  unfolding records_good flatten every
  good_end e =
      let f : length (flatten (recs bytes)) ≡ seen = sym is_seen ∙ rw e (omega arith) in
      let c : length (recs bytes) ≡ count = sym is_count ∙ rw e (omega arith) in
      let v : every (passes network) (recs bytes) ≡ true = is_every ∙ rw e refl in
      sym (rw (whole_is bytes, f, c, v, and_true (eqb count records)) refl)

  module _ (piece after : List ℕ) (step : recs left ≡ piece ∷ recs after) where
    pub good_not : passes network piece ≡ false → false ≡ records_good network records bytes
    unfolding records_good every
    good_not e =
        let v : every (passes network) (recs bytes) ≡ false = is_every ∙ rw (step, e) refl in
        sym (rw (v, and_false (eqb (length (recs bytes)) records)) (and_false (whole record_in bytes)))

    pub seen_more : seen + length piece + length (flatten (recs after)) ≡ length (flatten (recs bytes))
    unfolding flatten
    seen_more = let l : length (flatten (recs left)) ≡ length piece + length (flatten (recs after)) = rw step (length-append piece (flatten (recs after))) in omega (arith, l, is_seen)

    pub count_more : count + 1 + length (recs after) ≡ length (recs bytes)
    count_more = let l : length (recs left) ≡ suc (length (recs after)) = ap length step in omega (arith, l, is_count)

    pub every_more : passes network piece ≡ true → every (passes network) (recs bytes) ≡ every (passes network) (recs after)
    unfolding every
    every_more e = is_every ∙ rw (step, e) refl

    pub seen_fits : seen + length piece ≤ length bytes
    seen_fits = omega (arith, seen_more, from_le record_in record_le 0 bytes)

    pub count_fits : count + 1 ≤ length bytes
    count_fits = omega (arith, count_more, count_le record_in record_le 0 bytes)

-- ---- a block, by the number that its first two digits write

every_any : (rs : List (List ℕ)) → every (passes None) rs ≡ true
unfolding every passes
every_any [] = refl
every_any (r ∷ rs) = every_any rs

counts : (d : Bool) (m n : ℕ) → (let o : Option ℕ = Some n in o) ≡ cond d (Some m) None → (d ≡ true) × (n ≡ m)
counts true m n e = (refl, cc)
counts false m n e = absurd cc

counts_none : (d : Bool) (m : ℕ) → (let o : Option ℕ = None in o) ≡ cond d (Some m) None → d ≡ false
counts_none true m e = absurd cc
counts_none false m e = refl

count_off : (l a b n x : Bool) → (a && b) ≡ false → false ≡ ((l && (a && (b && n))) && x)
count_off true true true n x e = absurd (true≢false e)
count_off true true false n x e = refl
count_off true false b n x e = refl
count_off false a b n x e = refl

count_on : (l a b n x : Bool) → l ≡ true → (a && b) ≡ true → (n && x) ≡ ((l && (a && (b && n))) && x)
count_on true true true n x h e = refl
count_on true true false n x h e = absurd (false≢true e)
count_on true false b n x h e = absurd (false≢true e)
count_on false a b n x h e = absurd (false≢true h)

module _ (block : List ℕ) where
  pub block_not : (let o : Option ℕ = None in o) ≡ two_in block → false ≡ good_block block
  unfolding good_block two_in
  block_not e =
      count_off (leb 2 (length block)) (is_digit (get_or block 0 0)) (is_digit (get_or block 1 0)) (leb 1 (two_digits_at block 0))
      (whole record_in (drop 2 block) && eqb (length (recs (drop 2 block))) (two_digits_at block 0)) (counts_none (is_digit (get_or block 0 0) && is_digit (get_or block 1 0)) (two_digits_at block 0) e)

  pub block_is : 2 ≤ length block → (n : ℕ) → (let o : Option ℕ = Some n in o) ≡ two_in block → (leb 1 n && records_good None n (take (length block - 2) (drop 2 block))) ≡ good_block block
  unfolding good_block two_in records_good
  block_is h n e =
      let d = counts (is_digit (get_or block 0 0) && is_digit (get_or block 1 0)) (two_digits_at block 0) n e in
      rw (rest_part block 2, every_any (recs (drop 2 block)), and_true (eqb (length (recs (drop 2 block))) n), d.1)
      (count_on (leb 2 (length block)) (is_digit (get_or block 0 0)) (is_digit (get_or block 1 0)) (leb 1 (two_digits_at block 0))
      (whole record_in (drop 2 block) && eqb (length (recs (drop 2 block))) (two_digits_at block 0)) (le-leb 2 (length block) h) d.0)

  -- where the count is one that a block may have
  pub block_one : 2 ≤ length block → (n : ℕ) → (let o : Option ℕ = Some n in o) ≡ two_in block → 1 ≤ n → records_good None n (take (length block - 2) (drop 2 block)) ≡ good_block block
  block_one h n e k = ap (λ (b : Bool). b && records_good None n (take (length block - 2) (drop 2 block))) (sym (le-leb 1 n k)) ∙ block_is h n e
