-- The laws of filling blocks with parameters: what is filled, and that blocks which were filled so are filled so again.
use mathlib.Core.Path.{◌≡◌, refl, sym, ap, ◌∙◌, subst}
use mathlib.Core.Bool.{Bool, true, false, cond}
use mathlib.Core.List.{List, [], ◌∷◌, ◌++◌, append_assoc, append-nil, map, flatten}
use Prim.Native.Nat.{ℕ, zero, suc, pred, ◌+◌, ◌≤◌, ◌<◌}
use native.Mathlib.Omega.{arith}
use lib.ListN.{length, take, drop, length-append, length-drop, take-append-drop}
use lib.Seq.{take_at, drop_at, length-take-le, drop-append_seam, take-append_seam}
use lib.Dec.{leb, ltb}
use borrow.Author.Tests.{le-leb, lt-leb, leb-true, leb-false, lt-ltb, ltb-true, ne_eqb}
use Rattle.answer.specs.Pieces.{piece_then, pieces, pieces_from, rest_then, rest, rest_from, every}
use Rattle.answer.proofs.Pieces.{count_le, pieces_cons, rest_cons, from_le, flatten_pieces, all_append}
use Rattle.parameters.specs.Parameters.{parameter_in, parameters, whole_list, data_of}
use Rattle.message.specs.Blocks.{block_of, filled, first_in, fill, greedy}
use Rattle.message.specs.Message.{short}
use Rattle.std.specs.Prelude.{Err}
use Rattle.message.specs.Steps.{measured, unheld}
use Rattle.message.specs.Within.{first_le}
use Rattle.parameters.specs.Within.{parameter_le}
use Rattle.answer.proofs.Parts.{and_left, and_right, flatten_append, every_append}
use Rattle.parameters.proofs.Parameters.{parameter_sizes, AllP, parameters_all, parameters_flat, whole_flat, flat_parameters, whole_some, both_parameters, AllWhole, all_whole, join_whole}
use Rattle.message.proofs.Blocks.{Sized}

-- ---- how much goes into the first block

filled_999 : (n : ℕ) (ps : List (List ℕ)) → n ≤ 999 → filled n ps ≤ 999
unfolding filled
filled_999 n [] h = h
filled_999 n (p ∷ ps) h = cases (leb (n + length p) 999) refl (λ k. filled_999 (n + length p) ps k)
  where
    cases : (t : Bool) → leb (n + length p) 999 ≡ t → (n + length p ≤ 999 → filled (n + length p) ps ≤ 999) → cond t (filled (n + length p) ps) n ≤ 999
    cases true e ih = ih (leb-true (n + length p) 999 e)
    cases false e ih = h

-- no more blocks than bytes
pub fill_few : (list : List ℕ) → length (fill list) ≤ length list
fill_few list = omega (arith, count_le first_in first_le 0 list)

first_999 : (xs : List ℕ) → first_in xs ≤ 999
unfolding first_in
first_999 xs = filled_999 0 (parameters xs) (omega arith)

-- ---- a walk over the parameters of a list: the present block has m bytes, `p` is next, and those of `more` are left

module _ (m : ℕ) (left p more : List ℕ) (e : pieces parameter_in left ≡ p ∷ pieces parameter_in more) where
  pub filled_on : m + length p ≤ 999 → filled m (parameters left) ≡ filled (m + length p) (parameters more)
  unfolding filled
  filled_on k = rw (e, le-leb (m + length p) 999 k) refl

  pub filled_over : 999 < m + length p → filled m (parameters left) ≡ m
  unfolding filled
  filled_over k = rw (e, lt-leb (m + length p) 999 k) refl

pub filled_none : (m : ℕ) (left : List ℕ) → pieces parameter_in left ≡ [] → filled m (parameters left) ≡ m
unfolding filled
filled_none m left e = rw e refl

-- ---- a walk over what goes into the blocks of a list: `s` goes into the next, and those of `more` are left

module _ (left s more : List ℕ) (e : pieces first_in left ≡ s ∷ pieces first_in more) where
  pub blocks_more : flatten (map block_of (fill left)) ≡ block_of s ++ flatten (map block_of (fill more))
  unfolding flatten
  blocks_more = ap (λ (l : List (List ℕ)). flatten (map block_of l)) e

  pub count_more : length (fill left) ≡ length (fill more) + 1
  count_more = ap (λ (l : List (List ℕ)). length l) e ∙ omega arith

  pub part_more : length (flatten (fill left)) ≡ length s + length (flatten (fill more))
  unfolding flatten
  part_more = ap (λ (l : List (List ℕ)). length (flatten l)) e ∙ length-append s (flatten (fill more))

pub blocks_none : (left : List ℕ) → pieces first_in left ≡ [] → flatten (map block_of (fill left)) ≡ []
unfolding flatten
blocks_none left e = ap (λ (l : List (List ℕ)). flatten (map block_of l)) e

pub part_none : (left : List ℕ) → pieces first_in left ≡ [] → length (flatten (fill left)) ≡ 0
unfolding flatten
part_none left e = ap (λ (l : List (List ℕ)). length (flatten l)) e

pub measured_not : (list : List ℕ) → (length (flatten (fill list)) ≡ length list → ⊥) → measured list ≡ Err (unheld list)
measured_not list h = rw (ne_eqb (length (flatten (fill list))) (length list) h) refl

-- ---- what is filled goes into blocks

sized_from : (k : ℕ) (xs : List ℕ) → Sized (pieces_from first_in k xs)
unfolding pieces_from
sized_from zero [] = tt
sized_from (suc k) [] = tt
sized_from (suc k) (x ∷ xs) = sized_from k xs
sized_from zero (x ∷ xs) = cases (first_in (x ∷ xs)) refl (λ k. sized_from k xs)
  where
    cases : (n : ℕ) → first_in (x ∷ xs) ≡ n → ((k : ℕ) → Sized (pieces_from first_in k xs)) → Sized (piece_then n (x ∷ xs) (pieces_from first_in (pred n) xs))
    cases zero e ih = tt
    cases (suc n) e ih =
        let l = first_le (x ∷ xs) in
        let m = first_999 (x ∷ xs) in
        let t : length (take (suc n) (x ∷ xs)) ≡ suc n = length-take-le (suc n) (x ∷ xs) (omega arith) in
        (omega arith, omega arith, ih n)

pub fill_sized : (list : List ℕ) → Sized (fill list)
fill_sized list = sized_from 0 list

-- what goes into the next block is no longer than a block
pub part_999 : (left s more : List ℕ) → pieces first_in left ≡ s ∷ pieces first_in more → length s ≤ 999
part_999 left s more e = (subst Sized e (fill_sized left)).1

pub part_le : (list : List ℕ) → length (flatten (fill list)) ≤ length list
part_le list = omega (arith, from_le first_in first_le 0 list)

-- ---- parameters go into the present block, or stay for the next

unfoldable front : ℕ → List (List ℕ) → List (List ℕ)
front n [] = []
front n (p ∷ ps) = cond (leb (n + length p) 999) (p ∷ front (n + length p) ps) []

unfoldable back : ℕ → List (List ℕ) → List (List ℕ)
back n [] = []
back n (p ∷ ps) = cond (leb (n + length p) 999) (back (n + length p) ps) (p ∷ ps)

front_back : (n : ℕ) (ps : List (List ℕ)) → front n ps ++ back n ps ≡ ps
unfolding front back
front_back n [] = refl
front_back n (p ∷ ps) = cases (leb (n + length p) 999) (front_back (n + length p) ps)
  where
    cases : (t : Bool) → front (n + length p) ps ++ back (n + length p) ps ≡ ps
        → cond t (p ∷ front (n + length p) ps) [] ++ cond t (back (n + length p) ps) (p ∷ ps) ≡ p ∷ ps
    cases true ih = ap (λ (l : List (List ℕ)). p ∷ l) ih
    cases false ih = refl

filled_front : (n : ℕ) (ps : List (List ℕ)) → filled n ps ≡ n + length (flatten (front n ps))
unfolding filled front flatten
filled_front n [] = omega arith
filled_front n (p ∷ ps) = cases (leb (n + length p) 999) (filled_front (n + length p) ps)
  where
    cases : (t : Bool) → filled (n + length p) ps ≡ n + length p + length (flatten (front (n + length p) ps))
        → cond t (filled (n + length p) ps) n ≡ n + length (flatten (cond t (p ∷ front (n + length p) ps) []))
    cases true ih = rw (length-append p (flatten (front (n + length p) ps))) (omega arith)
    cases false ih = omega arith

back_shorter : (n : ℕ) (ps : List (List ℕ)) → length (back n ps) ≤ length ps
unfolding back
back_shorter n [] = omega arith
back_shorter n (p ∷ ps) = cases (leb (n + length p) 999) (back_shorter (n + length p) ps)
  where
    cases : (t : Bool) → length (back (n + length p) ps) ≤ length ps → length (cond t (back (n + length p) ps) (p ∷ ps)) ≤ suc (length ps)
    cases true h = omega arith
    cases false h = omega arith

-- what stays for the next block has no room in this one
back_over : (n : ℕ) (ps : List (List ℕ)) (q : List ℕ) (qs : List (List ℕ)) → back n ps ≡ q ∷ qs → 999 < n + length (flatten (front n ps)) + length q
unfolding front back flatten
back_over n [] q qs e = absurd (let z : ◌≡◌ {A = ℕ} 0 1 = cc in omega arith)
back_over n (p ∷ ps) q qs e = cases (leb (n + length p) 999) refl (back_over (n + length p) ps q qs) e
  where
    cases : (t : Bool) → leb (n + length p) 999 ≡ t
        → (back (n + length p) ps ≡ q ∷ qs → 999 < n + length p + length (flatten (front (n + length p) ps)) + length q)
        → cond t (back (n + length p) ps) (p ∷ ps) ≡ q ∷ qs → 999 < n + length (flatten (cond t (p ∷ front (n + length p) ps) [])) + length q
    cases true f ih g = rw (length-append p (flatten (front (n + length p) ps))) (omega (arith, ih g))
    cases false f ih g =
        let l = leb-false (n + length p) 999 f in
        let h : p ≡ q = cc in
        omega (arith, ap (λ (x : List ℕ). length x) h)

-- ---- whatever the list, its blocks are whole parameters, one after another from its start

-- the pieces of a list, and what is left of it
pieces_rest : (size : List ℕ → ℕ) (k : ℕ) (xs : List ℕ) → flatten (pieces_from size k xs) ++ rest_from size k xs ≡ drop k xs
unfolding pieces_from rest_from flatten
pieces_rest size zero [] = refl
pieces_rest size (suc k) [] = refl
pieces_rest size (suc k) (x ∷ xs) = pieces_rest size k xs
pieces_rest size zero (x ∷ xs) = cases (size (x ∷ xs)) (λ k. pieces_rest size k xs)
  where
    cases : (n : ℕ) → ((k : ℕ) → flatten (pieces_from size k xs) ++ rest_from size k xs ≡ drop k xs)
        → flatten (piece_then n (x ∷ xs) (pieces_from size (pred n) xs)) ++ rest_then n (x ∷ xs) (rest_from size (pred n) xs) ≡ x ∷ xs
    cases zero ih = refl
    cases (suc n) ih =
        append_assoc (take (suc n) (x ∷ xs)) (flatten (pieces_from size n xs)) (rest_from size n xs)
        ∙ ap (λ (l : List ℕ). x ∷ (take n xs ++ l)) (ih n) ∙ ap (λ (l : List ℕ). x ∷ l) (take-append-drop n xs)

first_whole : (xs : List ℕ) → whole_list (take (first_in xs) xs) ≡ true
unfolding first_in
first_whole xs =
    let ps = parameters xs in
    let f = front 0 ps in
    let b = back 0 ps in
    let left = rest parameter_in xs in
    let n : first_in xs ≡ length (flatten f) = filled_front 0 ps ∙ omega arith in
    let split : flatten f ++ (flatten b ++ left) ≡ xs =
    sym (append_assoc (flatten f) (flatten b) left) ∙ ap (λ (l : List ℕ). l ++ left) (sym (flatten_append f b) ∙ ap flatten (front_back 0 ps)) ∙ pieces_rest parameter_in 0 xs in
    let t : take (first_in xs) xs ≡ flatten f =
    ap (λ (m : ℕ). take m xs) n ∙ ap (take (length (flatten f))) (sym split) ∙ take-append_seam (flatten f) (flatten b ++ left) in
    ap whole_list t ∙ whole_flat f (all_append parameter_in f b (subst AllP (sym (front_back 0 ps)) (parameters_all xs))).0

lists_from : (k : ℕ) (xs : List ℕ) → every whole_list (pieces_from first_in k xs) ≡ true
unfolding pieces_from every
lists_from zero [] = refl
lists_from (suc k) [] = refl
lists_from (suc k) (x ∷ xs) = lists_from k xs
lists_from zero (x ∷ xs) = cases (first_in (x ∷ xs)) refl (λ k. lists_from k xs)
  where
    cases : (n : ℕ) → first_in (x ∷ xs) ≡ n → ((k : ℕ) → every whole_list (pieces_from first_in k xs) ≡ true)
        → every whole_list (piece_then n (x ∷ xs) (pieces_from first_in (pred n) xs)) ≡ true
    cases zero e ih = refl
    cases (suc n) e ih = let w = ap (λ (m : ℕ). whole_list (take m (x ∷ xs))) (sym e) ∙ first_whole (x ∷ xs) in rw w (ih n)

pub fill_lists : (list : List ℕ) → every whole_list (fill list) ≡ true
fill_lists list = lists_from 0 list

-- ---- blocks that hold all of a good list

-- each parameter goes into one block
abbrev Small : List (List ℕ) → Type 0
Small [] = Unit {0}
Small (p ∷ ps) = (length p ≤ 999) × Small ps

small_append : (a b : List (List ℕ)) → Small (a ++ b) → Small a × Small b
small_append [] b h = (tt, h)
small_append (p ∷ a) b h = let r = small_append a b h.1 in ((h.0, r.0), r.1)

small_short : (ps : List (List ℕ)) → every short ps ≡ true → Small ps
unfolding every
small_short [] e = tt
small_short (p ∷ ps) e =
    let h = leb-true (length (data_of p)) _ (and_left (short p) (every short ps) e) in
    (omega (arith, simp length-drop at h), small_short ps (and_right (short p) (every short ps) e))

-- the first block of parameters, and the others
record First (p : List ℕ) (ps : List (List ℕ)) : Type 0 where
  block : List (List ℕ)
  others : List (List ℕ)
  split : block ++ others ≡ p ∷ ps
  first : first_in (flatten (p ∷ ps)) ≡ length (flatten block)
  some : length (flatten block) ≡ 0 → ⊥
  fewer : length others ≤ length ps
  next : (q : List ℕ) (qs : List (List ℕ)) → others ≡ q ∷ qs → 999 < length (flatten block) + length q
  more : List (List ℕ)
  starts : block ≡ p ∷ more

first_of : (p : List ℕ) (ps : List (List ℕ)) → AllP (p ∷ ps) → length p ≤ 999 → First p ps
unfolding first_in front back flatten
first_of p ps a h =
    let z : 0 + length p ≡ length p = omega arith in
    let t : leb (0 + length p) 999 ≡ true = le-leb (0 + length p) 999 (omega arith) in
    let f : front 0 (p ∷ ps) ≡ p ∷ front (0 + length p) ps = rw t refl in
    let b : back 0 (p ∷ ps) ≡ back (0 + length p) ps = rw t refl in
    let e : first_in (flatten (p ∷ ps)) ≡ length (flatten (front 0 (p ∷ ps))) =
    ap (filled 0) (parameters_flat (p ∷ ps) a) ∙ filled_front 0 (p ∷ ps) ∙ omega arith in
    let l : length (flatten (front 0 (p ∷ ps))) ≡ length p + length (flatten (front (0 + length p) ps)) =
    ap (λ (x : List (List ℕ)). length (flatten x)) f ∙ length-append p (flatten (front (0 + length p) ps)) in
    record {
      block = front 0 (p ∷ ps);
      others = back 0 (p ∷ ps);
      split = front_back 0 (p ∷ ps);
      first = e;
      some = λ x. a.1 (omega arith);
      fewer = omega (arith, ap (λ (x : List (List ℕ)). length x) b, back_shorter (0 + length p) ps);
      next = λ q qs g. omega (arith, back_over 0 (p ∷ ps) q qs g);
      more = front (0 + length p) ps;
      starts = f;
    }

-- the list as the bytes of its first block and of the others
module _ (p : List ℕ) (ps : List (List ℕ)) (d : First p ps) where
  abbrev size : ℕ
  size = length (flatten d.block)

  joined : flatten (p ∷ ps) ≡ flatten d.block ++ flatten d.others
  joined = ap flatten (sym d.split) ∙ flatten_append d.block d.others

  front_is : take size (flatten (p ∷ ps)) ≡ flatten d.block
  front_is = ap (take size) joined ∙ take-append_seam (flatten d.block) (flatten d.others)

  back_is : drop size (flatten (p ∷ ps)) ≡ flatten d.others
  back_is = ap (drop size) joined ∙ drop-append_seam (flatten d.block) (flatten d.others)

  fill_is : fill (flatten (p ∷ ps)) ≡ flatten d.block ∷ fill (flatten d.others)
  fill_is = pieces_cons first_in first_le (flatten (p ∷ ps)) size d.first d.some ∙ rw (front_is, back_is) refl

  rest_is : rest first_in (flatten (p ∷ ps)) ≡ rest first_in (flatten d.others)
  rest_is = rest_cons first_in first_le (flatten (p ∷ ps)) size d.first d.some ∙ ap (rest first_in) back_is

-- a block that has no room for the first of the others is filled greedily in front of theirs
greedy_cons : (x : List ℕ) (others : List (List ℕ)) → AllP others → Small others
    → ((q : List ℕ) (qs : List (List ℕ)) → others ≡ q ∷ qs → 999 < length x + length q) → greedy (fill (flatten others)) ≡ true → greedy (x ∷ fill (flatten others)) ≡ true
unfolding greedy flatten pieces_from
greedy_cons x [] a s o g = refl
greedy_cons x (q ∷ qs) a s o g =
    let d = first_of q qs a s.0 in
    let b = flatten d.block in
    let p : parameter_in b ≡ length q =
    ap (λ (l : List (List ℕ)). parameter_in (flatten l)) d.starts ∙ parameter_sizes.append q (flatten d.more) (λ z. a.1 (sym a.0 ∙ z)) ∙ a.0 in
    let t : ltb 999 (length x + parameter_in b) ≡ true = lt-ltb 999 (length x + parameter_in b) (omega (arith, p, o q qs refl)) in
    ap (λ (l : List (List ℕ)). greedy (x ∷ l)) (fill_is q qs d) ∙ rw t (ap greedy (sym (fill_is q qs d)) ∙ g)

-- what holds of the blocks that parameters fill
record Filled (ps : List (List ℕ)) : Type 0 where
  all : rest first_in (flatten ps) ≡ []
  greed : greedy (fill (flatten ps)) ≡ true

abbrev FillsTo : ℕ → Type 0
FillsTo k = (ps : List (List ℕ)) → length ps ≤ k → AllP ps → Small ps → Filled ps

fills_none : Filled []
unfolding flatten rest_from pieces_from greedy
fills_none = record { all = refl; greed = refl }

fills_more : (k : ℕ) → FillsTo k → FillsTo (suc k)
fills_more k ih [] h a s = fills_none
fills_more k ih (p ∷ ps) h a s =
    let d = first_of p ps a s.0 in
    let fewer = d.fewer in
    let b = all_append parameter_in d.block d.others (subst AllP (sym d.split) a) in
    let t = small_append d.block d.others (subst Small (sym d.split) s) in
    let r = ih d.others (omega arith) b.1 t.1 in
    record {
      all = rest_is p ps d ∙ r.all;
      greed = ap greedy (fill_is p ps d) ∙ greedy_cons (flatten d.block) d.others b.1 t.1 d.next r.greed;
    }

fills_zero : FillsTo 0
fills_zero [] h a s = fills_none
fills_zero (p ∷ ps) h a s = absurd (omega arith)

fills : (k : ℕ) → FillsTo k
fills zero = fills_zero
fills (suc k) = fills_more k (fills k)

-- a good list, all of whose parameters go into a block
module _ (list : List ℕ) (good : whole_list list ≡ true) (fit : every short (parameters list) ≡ true) where
  all_filled : Filled (parameters list)
  all_filled = fills (length (parameters list)) (parameters list) (omega arith) (parameters_all list) (small_short (parameters list) fit)

  same : flatten (parameters list) ≡ list
  same = flat_parameters list good

  pub fill_greedy : greedy (fill list) ≡ true
  fill_greedy = ap (λ (l : List ℕ). greedy (fill l)) (sym same) ∙ all_filled.greed

  pub flatten_fill : flatten (fill list) ≡ list
  flatten_fill = flatten_pieces first_in first_le list (ap (rest first_in) (sym same) ∙ all_filled.all)

-- ---- blocks that were filled greedily are filled so again

-- parameters that fit in a block go into it, and the next does not
filled_stop : (n : ℕ) (ps : List (List ℕ)) (p : List ℕ) (qs : List (List ℕ)) → n + length (flatten ps) ≤ 999 → 999 < n + length (flatten ps) + length p
    → filled n (ps ++ (p ∷ qs)) ≡ n + length (flatten ps)
unfolding filled flatten
filled_stop n [] p qs h k = rw (lt-leb (n + length p) 999 (omega arith)) (omega arith)
filled_stop n (q ∷ ps) p qs h k =
    let l = length-append q (flatten ps) in
    rw (le-leb (n + length q) 999 (omega arith)) (filled_stop (n + length q) ps p qs (omega arith) (omega arith) ∙ omega arith)

filled_all : (n : ℕ) (ps : List (List ℕ)) → n + length (flatten ps) ≤ 999 → filled n ps ≡ n + length (flatten ps)
unfolding filled flatten
filled_all n [] h = omega arith
filled_all n (q ∷ ps) h =
    let l = length-append q (flatten ps) in
    rw (le-leb (n + length q) 999 (omega arith)) (filled_all (n + length q) ps (omega arith) ∙ omega arith)

-- a block in front of a list whose first parameter it has no room for
first_full : (b c t : List ℕ) → whole_list b ≡ true → whole_list (c ++ t) ≡ true → length b ≤ 999 → (parameter_in c ≡ 0 → ⊥)
    → 999 < length b + parameter_in c → first_in (b ++ (c ++ t)) ≡ length b
unfolding first_in
first_full b c t wb wc h some over =
    let n = parameter_in c in
    let e = ap length (flat_parameters b wb) in
    let p : parameters (c ++ t) ≡ take n (c ++ t) ∷ parameters (drop n (c ++ t)) = pieces_cons parameter_in parameter_le (c ++ t) n (parameter_sizes.append c t some) some in
    let l : length (take n (c ++ t)) ≡ n = length-take-le n (c ++ t) (omega (arith, parameter_le c, length-append c t)) in
    ap (filled 0) (both_parameters b (c ++ t) wb wc ∙ ap (λ (x : List (List ℕ)). parameters b ++ x) p)
    ∙ filled_stop 0 (parameters b) (take n (c ++ t)) (parameters (drop n (c ++ t))) (omega arith) (omega arith)
    ∙ omega arith

first_again : (b : List ℕ) (bs : List (List ℕ)) → AllWhole (b ∷ bs) → Sized (b ∷ bs) → greedy (b ∷ bs) ≡ true → first_in (b ++ flatten bs) ≡ length b
unfolding first_in greedy flatten
first_again b [] w s g =
    let e = ap length (flat_parameters b w.0) in
    ap first_in (append-nil b) ∙ filled_all 0 (parameters b) (omega (arith, e, s.1)) ∙ omega (arith, e)
first_again b (c ∷ bs) w s g =
    let over = ltb-true 999 (length b + parameter_in c) (and_left (ltb 999 (length b + parameter_in c)) (greedy (c ∷ bs)) g) in
    first_full b c (flatten bs) w.0 (join_whole (c ∷ bs) w.1) s.1 (whole_some c w.1.0 s.2.0) over

pub fill_again : (bs : List (List ℕ)) → AllWhole bs → Sized bs → greedy bs ≡ true → fill (flatten bs) ≡ bs
unfolding flatten pieces_from greedy
fill_again [] w s g = refl
fill_again (b ∷ bs) w s g =
    pieces_cons first_in first_le (b ++ flatten bs) (length b) (first_again b bs w s g) (λ z. omega (arith, s.0))
    ∙ rw (take_at b (flatten bs) (length b) refl, drop_at b (flatten bs) (length b) refl) (ap (λ (x : List (List ℕ)). b ∷ x) (fill_again bs w.1 s.2 (greedy_tail b bs g)))
  where
    greedy_tail : (b : List ℕ) (bs : List (List ℕ)) → greedy (b ∷ bs) ≡ true → greedy bs ≡ true
    greedy_tail b [] g = refl
    greedy_tail b (c ∷ bs) g = and_right (ltb 999 (length b + parameter_in c)) (greedy (c ∷ bs)) g

-- a parameter is no longer than the block that it stands in
piece_short : (ps : List (List ℕ)) → length (flatten ps) ≤ 999 → every short ps ≡ true
unfolding every flatten
piece_short [] h = refl
piece_short (p ∷ ps) h =
    let l = length-append p (flatten ps) in
    let d = length-drop 4 p in
    let t : short p ≡ true = le-leb (length (data_of p)) _ (omega arith) in
    rw t (piece_short ps (omega arith))

pub join_short : (bs : List (List ℕ)) → AllWhole bs → Sized bs → every short (parameters (flatten bs)) ≡ true
unfolding flatten pieces_from every
join_short [] w s = refl
join_short (b ∷ bs) w s =
    let e = ap (λ (l : List ℕ). length l) (flat_parameters b w.0) in
    ap (every short) (both_parameters b (flatten bs) w.0 (join_whole bs w.1))
    ∙ every_append short (parameters b) (parameters (flatten bs)) (piece_short (parameters b) (omega (arith, e, s.1))) (join_short bs w.1 s.2)

-- ---- blocks that hold all of a list show that it is good

none_left : (l : List ℕ) → length l ≡ 0 → l ≡ []
none_left [] e = refl
none_left (x ∷ l) e = absurd (omega arith)

module _ (list : List ℕ) (held : length (flatten (fill list)) ≡ length list) where
  blocks_are : flatten (fill list) ≡ list
  blocks_are =
      let left = rest first_in list in
      let s : flatten (fill list) ++ left ≡ list = pieces_rest first_in 0 list in
      let n : length left ≡ 0 = omega (arith, held, simp length-append at (ap length s)) in
      flatten_pieces first_in first_le list (none_left left n)

  pub held_whole : whole_list list ≡ true
  held_whole = ap whole_list (sym blocks_are) ∙ join_whole (fill list) (all_whole (fill list) (fill_lists list))

  pub held_short : every short (parameters list) ≡ true
  held_short = ap (λ (l : List ℕ). every short (parameters l)) (sym blocks_are) ∙ join_short (fill list) (all_whole (fill list) (fill_lists list)) (fill_sized list)
