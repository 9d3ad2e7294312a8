-- The laws of blocks: written blocks are read, and read blocks are written.
use mathlib.Core.Path.{◌≡◌, refl, sym, ap, ap₂, ◌∙◌}
use mathlib.Core.Bool.{Bool, true, false, ◌&&◌, cond, false≢true}
use mathlib.Core.List.{List, [], ◌∷◌, ◌++◌, map, flatten}
use Prim.Native.Nat.{ℕ, suc, ◌+◌, ◌-◌, ◌*◌, ◌/◌, ◌%◌, ◌≤◌}
use native.Mathlib.Omega.{arith}
use lib.ListN.{length, get_or, take, drop, length-append, length-drop, get_or-append}
use lib.Seq.{length-take-le, get_or-take}
use lib.Dec.{leb}
use borrow.Author.Tests.{le-leb, leb-true}
use Rattle.std.specs.List.{list_all}
use Rattle.answer.specs.Pieces.{found, pieces, rest, is_none, whole, every}
use Rattle.std.specs.Prelude.{Option, Some, None}
use Rattle.answer.proofs.DigitLaws.{digit_nine}
use Rattle.answer.proofs.Pieces.{Sizes, none_true, from_le, flatten_pieces, pieces_flatten, rest_flatten, all_pieces}
use Rattle.parameters.specs.Parameters.{whole_list}
use Rattle.answer.specs.Digits.{is_digit, three_at, three_in}
use Rattle.answer.specs.Claims.{AllPieces}
use Rattle.message.specs.Blocks.{is_length, block_in, blocks_of, three_of, block_of}
use Rattle.message.specs.Within.{block_le}
use Rattle.answer.proofs.Parts.{and_left, and_right}

-- ---- the size of a block

block_good : (xs : List ℕ) → 3 ≤ length xs → is_length xs ≡ true → 3 + three_at xs ≤ length xs → block_in xs ≡ 3 + three_at xs
unfolding block_in
block_good xs h g f = rw (le-leb 3 (length xs) h, g, le-leb (3 + three_at xs) (length xs) f) refl

-- ---- a block is told by its own bytes

record Block (xs : List ℕ) : Type 0 where
  long : 3 ≤ length xs
  good : is_length xs ≡ true
  fits : 3 + three_at xs ≤ length xs
  is : block_in xs ≡ 3 + three_at xs

block : (xs : List ℕ) → (block_in xs ≡ 0 → ⊥) → Block xs
unfolding block_in
block xs = cases (leb 3 (length xs)) (is_length xs) (leb (3 + three_at xs) (length xs)) refl refl refl
  where
    cases : (a b c : Bool) → leb 3 (length xs) ≡ a → is_length xs ≡ b → leb (3 + three_at xs) (length xs) ≡ c
        → (cond (a && (b && c)) (3 + three_at xs) 0 ≡ 0 → ⊥) → Block xs
    cases true true true e f g h =
        let k = leb-true 3 (length xs) e in
        let l = leb-true (3 + three_at xs) (length xs) g in
        record { long = k; good = f; fits = l; is = block_good xs k f l }
    cases true true false e f g h = absurd (h refl)
    cases true false c e f g h = absurd (h refl)
    cases false b c e f g h = absurd (h refl)

-- lists that start with the same three bytes
same_three : (xs ys : List ℕ) → get_or xs 0 0 ≡ get_or ys 0 0 → get_or xs 1 0 ≡ get_or ys 1 0 → get_or xs 2 0 ≡ get_or ys 2 0 → (is_length xs ≡ is_length ys) × (three_at xs ≡ three_at ys)
same_three xs ys a b c = (rw (a, b, c) refl, rw (a, b, c) refl)

block_append : (xs ys : List ℕ) → (block_in xs ≡ 0 → ⊥) → block_in (xs ++ ys) ≡ block_in xs
block_append xs ys h =
    let d = block xs h in
    let l = d.long in
    let f = d.fits in
    let n = length-append xs ys in
    let s = same_three (xs ++ ys) xs (get_or-append xs ys 0 0 (omega arith)) (get_or-append xs ys 0 1 (omega arith)) (get_or-append xs ys 0 2 (omega arith)) in
    block_good (xs ++ ys) (omega arith) (s.0 ∙ d.good) (omega (arith, s.1, n, f)) ∙ ap (λ (k : ℕ). 3 + k) s.1 ∙ sym d.is

block_alone : (xs : List ℕ) → (block_in xs ≡ 0 → ⊥) → block_in (take (block_in xs) xs) ≡ block_in xs
block_alone xs h =
    let d = block xs h in
    let n = block_in xs in
    let l = d.long in
    let f = d.fits in
    let i = d.is in
    let t : length (take n xs) ≡ n = length-take-le n xs (omega arith) in
    let s = same_three (take n xs) xs (get_or-take n xs 0 0 (omega arith)) (get_or-take n xs 1 0 (omega arith)) (get_or-take n xs 2 0 (omega arith)) in
    block_good (take n xs) (omega arith) (s.0 ∙ d.good) (omega (arith, s.1, t, f, i)) ∙ omega (arith, s.1, i)

pub block_sizes : Sizes block_in
block_sizes = record { le = block_le; append = block_append; alone = block_alone }

-- ---- the three digits

record Digits (xs : List ℕ) : Type 0 where
  low0 : 0x30 ≤ get_or xs 0 0
  high0 : get_or xs 0 0 ≤ 0x39
  low1 : 0x30 ≤ get_or xs 1 0
  high1 : get_or xs 1 0 ≤ 0x39
  low2 : 0x30 ≤ get_or xs 2 0
  high2 : get_or xs 2 0 ≤ 0x39
  one : 1 ≤ three_at xs

digits : (xs : List ℕ) → is_length xs ≡ true → Digits xs
digits xs e =
    let a = get_or xs 0 0 in
    let b = get_or xs 1 0 in
    let c = get_or xs 2 0 in
    let ea = and_left (is_digit a) (is_digit b && (is_digit c && leb 1 (three_at xs))) e in
    let e1 = and_right (is_digit a) (is_digit b && (is_digit c && leb 1 (three_at xs))) e in
    let eb = and_left (is_digit b) (is_digit c && leb 1 (three_at xs)) e1 in
    let e2 = and_right (is_digit b) (is_digit c && leb 1 (three_at xs)) e1 in
    let ec = and_left (is_digit c) (leb 1 (three_at xs)) e2 in
    record {
      low0 = leb-true 0x30 a (and_left (leb 0x30 a) (leb a 0x39) ea);
      high0 = leb-true a 0x39 (and_right (leb 0x30 a) (leb a 0x39) ea);
      low1 = leb-true 0x30 b (and_left (leb 0x30 b) (leb b 0x39) eb);
      high1 = leb-true b 0x39 (and_right (leb 0x30 b) (leb b 0x39) eb);
      low2 = leb-true 0x30 c (and_left (leb 0x30 c) (leb c 0x39) ec);
      high2 = leb-true c 0x39 (and_right (leb 0x30 c) (leb c 0x39) ec);
      one = leb-true 1 (three_at xs) (and_right (is_digit c) (leb 1 (three_at xs)) e2);
    }

-- digits that are read, and written again
module _ (a b c : ℕ) (la : 0x30 ≤ a) (ha : a ≤ 0x39) (lb : 0x30 ≤ b) (hb : b ≤ 0x39) (lc : 0x30 ≤ c) (hc : c ≤ 0x39) where
  three_low : three_of ((a - 0x30) * 100 + (b - 0x30) * 10 + (c - 0x30)) ≡ a ∷ b ∷ c ∷ []
  three_low =
      let n = (a - 0x30) * 100 + (b - 0x30) * 10 + (c - 0x30) in
      let x : 0x30 + n / 100 ≡ a = omega arith in
      let t : n / 10 ≡ (a - 0x30) * 10 + (b - 0x30) = omega arith in
      let y : 0x30 + n / 10 % 10 ≡ b = rw t (omega arith) in
      let z : 0x30 + n % 10 ≡ c = omega arith in
      rw (x, y, z) refl

  three_back : three_of (a % 16 * 100 + b % 16 * 10 + c % 16) ≡ a ∷ b ∷ c ∷ []
  three_back =
      let x : a % 16 ≡ a - 0x30 = omega arith in
      let y : b % 16 ≡ b - 0x30 = omega arith in
      let z : c % 16 ≡ c - 0x30 = omega arith in
      ap three_of (ap (λ k. k * 100 + b % 16 * 10 + c % 16) x ∙ ap (λ k. (a - 0x30) * 100 + k * 10 + c % 16) y ∙ ap (λ k. (a - 0x30) * 100 + (b - 0x30) * 10 + k) z) ∙ three_low

-- digits that are written, and read again
digit_back : (d : ℕ) → d ≤ 9 → (0x30 + d) % 16 ≡ d
digit_back d h = omega arith

three_is : (n : ℕ) (s : List ℕ) → n ≤ 999 → three_at (three_of n ++ s) ≡ n
three_is n s h =
    let x : n / 100 ≤ 9 = omega arith in
    let y : n / 10 % 10 ≤ 9 = omega arith in
    let z : n % 10 ≤ 9 = omega arith in
    rw (digit_back (n / 100) x, digit_back (n / 10 % 10) y, digit_back (n % 10) z) (omega arith)

digit_is : (d : ℕ) → d ≤ 9 → is_digit (0x30 + d) ≡ true
digit_is d h = rw (le-leb 0x30 (0x30 + d) (omega arith), le-leb (0x30 + d) 0x39 (omega arith)) refl

three_good : (n : ℕ) (s : List ℕ) → 1 ≤ n → n ≤ 999 → is_length (three_of n ++ s) ≡ true
three_good n s l h =
    rw (digit_is (n / 100) (omega arith), digit_is (n / 10 % 10) (omega arith), digit_is (n % 10) (omega arith))
    (le-leb 1 (three_at (three_of n ++ s)) (omega (arith, three_is n s h)))

-- ---- blocks that are written

-- each of ss goes into a block
abbrev pub Sized : List (List ℕ) → Type 0
Sized [] = Unit {0}
Sized (s ∷ ss) = (1 ≤ length s) × (length s ≤ 999) × Sized ss

block_of_lem : (s : List ℕ) → 1 ≤ length s → length s ≤ 999 → block_in (block_of s) ≡ length (block_of s)
block_of_lem s l h =
    let e = three_is (length s) s h in
    block_good (block_of s) (omega arith) (three_good (length s) s l h) (omega (arith, e)) ∙ omega (arith, e)

blocks_all : (ss : List (List ℕ)) → Sized ss → AllPieces block_in (map block_of ss)
blocks_all [] h = tt
blocks_all (s ∷ ss) h = (block_of_lem s h.0 h.1, (λ z. omega arith), blocks_all ss h.2)

held_of : (ss : List (List ℕ)) → map (drop 3) (map block_of ss) ≡ ss
held_of [] = refl
held_of (s ∷ ss) = ap (λ (l : List (List ℕ)). s ∷ l) (held_of ss)

pub written_whole : (ss : List (List ℕ)) → Sized ss → whole block_in (flatten (map block_of ss)) ≡ true
written_whole ss h = ap is_none (rest_flatten block_in block_sizes (map block_of ss) (blocks_all ss h))

pub written_blocks : (ss : List (List ℕ)) → Sized ss → blocks_of (flatten (map block_of ss)) ≡ ss
written_blocks ss h = ap (map (drop 3)) (pieces_flatten block_in block_sizes (map block_of ss) (blocks_all ss h)) ∙ held_of ss

pub blocks_long : (ss : List (List ℕ)) → length (flatten (map block_of ss)) ≡ length (flatten ss) + 3 * length ss
unfolding flatten
blocks_long [] = refl
blocks_long (s ∷ ss) =
    length-append (block_of s) (flatten (map block_of ss)) ∙ rw (length-append s (flatten ss)) (omega (arith, blocks_long ss))

-- ---- blocks that are read

record Read (q : List ℕ) : Type 0 where
  again : block_of (drop 3 q) ≡ q
  low : 1 ≤ length (drop 3 q)
  high : length (drop 3 q) ≤ 999

apart : (q : List ℕ) → 3 ≤ length q → get_or q 0 0 ∷ get_or q 1 0 ∷ get_or q 2 0 ∷ drop 3 q ≡ q
apart [] h = absurd (omega arith)
apart (a ∷ []) h = absurd (omega arith)
apart (a ∷ b ∷ []) h = absurd (omega arith)
apart (a ∷ b ∷ c ∷ q) h = refl

block_read : (q : List ℕ) → block_in q ≡ length q → (length q ≡ 0 → ⊥) → Read q
block_read q e h =
    let d = block q (λ z. h (sym e ∙ z)) in
    let g = digits q d.good in
    let i = d.is in
    let n : length (drop 3 q) ≡ three_at q = simp length-drop (omega arith) in
    record {
      again =
          ap (λ (k : ℕ). three_of k ++ drop 3 q) n
          ∙ ap (λ (l : List ℕ). l ++ drop 3 q) (three_back (get_or q 0 0) (get_or q 1 0) (get_or q 2 0) g.low0 g.high0 g.low1 g.high1 g.low2 g.high2)
          ∙ apart q d.long;
      low = omega (arith, n, g.one);
      high = omega (arith, n, g.high0, g.high1, g.high2);
    }

read_blocks : (qs : List (List ℕ)) → AllPieces block_in qs → (map block_of (map (drop 3) qs) ≡ qs) × Sized (map (drop 3) qs)
read_blocks [] a = (refl, tt)
read_blocks (q ∷ qs) a =
    let d = block_read q a.0 a.1 in
    let r = read_blocks qs a.2 in
    (ap₂ (λ (x : List ℕ) (l : List (List ℕ)). x ∷ l) d.again r.0, (d.low, d.high, r.1))

-- the blocks of a whole body, written again
pub body_again : (body : List ℕ) → whole block_in body ≡ true → (flatten (map block_of (blocks_of body)) ≡ body) × Sized (blocks_of body)
body_again body e =
    let r = read_blocks (pieces block_in body) (all_pieces block_in block_sizes body) in
    (ap flatten r.0 ∙ flatten_pieces block_in block_le body (none_true (rest block_in body) e), r.1)

-- ---- the size of a block, by what its three digits tell

record Three (s : List ℕ) (n : ℕ) : Type 0 where
  is : three_at s ≡ n
  first : is_digit (get_or s 0 0) ≡ true
  second : is_digit (get_or s 1 0) ≡ true
  third : is_digit (get_or s 2 0) ≡ true

three_told : (s : List ℕ) (n : ℕ) → (let o : Option ℕ = Some n in o) ≡ three_in s → Three s n
unfolding three_in
three_told s n = cases (is_digit (get_or s 0 0)) (is_digit (get_or s 1 0)) (is_digit (get_or s 2 0)) refl refl refl
  where
    cases : (t u v : Bool) → is_digit (get_or s 0 0) ≡ t → is_digit (get_or s 1 0) ≡ u → is_digit (get_or s 2 0) ≡ v
        → (let o : Option ℕ = Some n in o) ≡ cond (t && (u && v)) (Some (three_at s)) None → Three s n
    cases true true true a b c e = let h : n ≡ three_at s = cc in record { is = sym h; first = a; second = b; third = c }
    cases true true false a b c e = absurd cc
    cases true false v a b c e = absurd cc
    cases false u v a b c e = absurd cc

third_there : (s : List ℕ) → is_digit (get_or s 2 0) ≡ true → 3 ≤ length s
third_there [] e = absurd (false≢true e)
third_there (a ∷ []) e = absurd (false≢true e)
third_there (a ∷ b ∷ []) e = absurd (false≢true e)
third_there (a ∷ b ∷ c ∷ s) e = omega arith

pub digits_some : (s : List ℕ) (n : ℕ) → (let o : Option ℕ = Some n in o) ≡ three_in s
    → (n ≤ 999) × (block_in s ≡ cond (leb 1 n && leb (3 + n) (length s)) (3 + n) 0)
unfolding block_in
digits_some s n e =
    let d = three_told s n e in
    let l = third_there s d.third in
    let x = digit_nine (get_or s 0 0) d.first in
    let y = digit_nine (get_or s 1 0) d.second in
    let z = digit_nine (get_or s 2 0) d.third in
    let by : block_in s ≡ cond (leb 1 (three_at s) && leb (3 + three_at s) (length s)) (3 + three_at s) 0 = rw (le-leb 3 (length s) l, d.first, d.second, d.third) refl in
    (omega (arith, d.is), by ∙ ap (λ (m : ℕ). cond (leb 1 m && leb (3 + m) (length s)) (3 + m) 0) d.is)

pub found_three : (n : ℕ) → found (3 + n) ≡ (let o : Option ℕ = Some (3 + n) in o)
found_three n =
    let e : 3 + n ≡ suc (suc (suc n)) = omega arith in
    ap found e ∙ ap (λ (k : ℕ). let o : Option ℕ = Some k in o) (sym e)

-- what the digits tell, as the code tests it
pub digits_low : (s : List ℕ) (n : ℕ) → (let o : Option ℕ = Some n in o) ≡ three_in s → n ≤ 999
digits_low s n e = (digits_some s n e).0

pub block_then : (s : List ℕ) (n : ℕ) → (let o : Option ℕ = Some n in o) ≡ three_in s → (leb 1 n && leb (3 + n) (length s)) ≡ true → (let o : Option ℕ = Some (3 + n) in o) ≡ found (block_in s)
block_then s n e h = sym (ap found ((digits_some s n e).1 ∙ ap (λ (t : Bool). cond t (3 + n) 0) h) ∙ found_three n)

pub block_else : (s : List ℕ) (n : ℕ) → (let o : Option ℕ = Some n in o) ≡ three_in s → (leb 1 n && leb (3 + n) (length s)) ≡ false → (let o : Option ℕ = None in o) ≡ found (block_in s)
block_else s n e h = sym (ap found ((digits_some s n e).1 ∙ ap (λ (t : Bool). cond t (3 + n) 0) h))

pub digits_none : (s : List ℕ) → (let o : Option ℕ = None in o) ≡ three_in s → block_in s ≡ 0
unfolding three_in block_in
digits_none s = cases (is_digit (get_or s 0 0)) (is_digit (get_or s 1 0)) (is_digit (get_or s 2 0)) (leb 3 (length s))
  where
    cases : (t u v w : Bool) → (let o : Option ℕ = None in o) ≡ cond (t && (u && v)) (Some (three_at s)) None
        → cond (w && ((t && (u && (v && leb 1 (three_at s)))) && leb (3 + three_at s) (length s))) (3 + three_at s) 0 ≡ 0
    cases true true true w e = absurd cc
    cases true true false true e = refl
    cases true true false false e = refl
    cases true false v true e = refl
    cases true false v false e = refl
    cases false u v true e = refl
    cases false u v false e = refl

-- ---- a walk over the blocks of a body: `q` is next, and those of `more` are left

pub lists_all : (qs : List (List ℕ)) → list_all (λ q. whole_list (drop 3 q)) qs ≡ every whole_list (map (drop 3) qs)
unfolding every
lists_all [] = refl
lists_all (q ∷ qs) = ap (λ (t : Bool). whole_list (drop 3 q) && t) (lists_all qs)

pub held_le : (qs : List (List ℕ)) → length (flatten (map (drop 3) qs)) ≤ length (flatten qs)
unfolding flatten
held_le [] = omega arith
held_le (q ∷ qs) = rw (length-append q (flatten qs), length-append (drop 3 q) (flatten (map (drop 3) qs)), length-drop 3 q) (omega (arith, held_le qs))

pub joined_le : (body : List ℕ) → length (flatten (blocks_of body)) ≤ length body
joined_le body = omega (arith, held_le (pieces block_in body), from_le block_in block_le 0 body)

module _ (left q more : List ℕ) (e : pieces block_in left ≡ q ∷ pieces block_in more) where
  pub held_more : flatten (blocks_of left) ≡ drop 3 q ++ flatten (blocks_of more)
  unfolding flatten
  held_more = ap (λ (l : List (List ℕ)). flatten (map (drop 3) l)) e

  pub joined_more : length (flatten (blocks_of left)) ≡ length (drop 3 q) + length (flatten (blocks_of more))
  joined_more = ap length held_more ∙ length-append (drop 3 q) (flatten (blocks_of more))

pub held_none : (left : List ℕ) → pieces block_in left ≡ [] → flatten (blocks_of left) ≡ []
unfolding flatten
held_none left e = ap (λ (l : List (List ℕ)). flatten (map (drop 3) l)) e
