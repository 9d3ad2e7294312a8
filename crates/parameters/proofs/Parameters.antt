-- The laws of parameters and of lists of them.
use mathlib.Core.Path.{◌≡◌, refl, sym, ap, ap₂, ◌∙◌}
use mathlib.Core.Bool.{Bool, true, false, ◌&&◌, cond, false≢true}
use mathlib.Core.List.{List, [], ◌∷◌, ◌++◌, flatten}
use Prim.Native.Nat.{ℕ, ◌+◌, ◌≤◌}
use native.Mathlib.Omega.{arith}
use lib.ListN.{length, take, drop, length-append, get_or-append}
use lib.Seq.{length-take-le, get_or-take}
use lib.Dec.{leb}
use borrow.Author.Tests.{le-leb, leb-true}
use Rattle.std.specs.Prelude.{Option, Some}
use Rattle.answer.specs.Pieces.{found, rest, rest_from, is_none, every}
use Rattle.answer.specs.Laid.{PieceAt}
use Rattle.answer.specs.Claims.{AllPieces}
use Rattle.answer.proofs.Found.{found_is, found_some}
use Rattle.answer.proofs.Pieces.{Sizes, none_true, within, flatten_pieces, pieces_flatten, rest_flatten, all_pieces, whole_stop}
use Rattle.parameters.specs.Parameters.{two_at, parameter_in, parameters, whole_list}
use Rattle.parameters.specs.Within.{parameter_le}
use Rattle.answer.proofs.Parts.{and_left, and_right, flatten_append}

-- ---- the size of a parameter

parameter_good : (xs : List ℕ) → 4 ≤ length xs → 4 + two_at xs 2 ≤ length xs → 4 + two_at xs 2 ≡ parameter_in xs
unfolding parameter_in
parameter_good xs h k = rw (le-leb 4 (length xs) h, le-leb (4 + two_at xs 2) (length xs) k) refl

-- ---- a parameter is told by its own bytes

record Header (xs : List ℕ) : Type 0 where
  long : 4 ≤ length xs
  fits : 4 + two_at xs 2 ≤ length xs
  is : parameter_in xs ≡ 4 + two_at xs 2

header : (xs : List ℕ) → (parameter_in xs ≡ 0 → ⊥) → Header xs
unfolding parameter_in
header xs = cases (leb 4 (length xs)) (leb (4 + two_at xs 2) (length xs)) refl refl
  where
    cases : (a b : Bool) → leb 4 (length xs) ≡ a → leb (4 + two_at xs 2) (length xs) ≡ b → (cond (a && b) (4 + two_at xs 2) 0 ≡ 0 → ⊥) → Header xs
    cases true true e f h =
        let k = leb-true 4 (length xs) e in
        let l = leb-true (4 + two_at xs 2) (length xs) f in
        record { long = k; fits = l; is = sym (parameter_good xs k l) }
    cases true false e f h = absurd (h refl)
    cases false b e f h = absurd (h refl)

pub parameter_four : (xs : List ℕ) → (parameter_in xs ≡ 0 → ⊥) → 4 ≤ parameter_in xs
parameter_four xs h = let i = (header xs h).is in omega arith

parameter_append : (xs ys : List ℕ) → (parameter_in xs ≡ 0 → ⊥) → parameter_in (xs ++ ys) ≡ parameter_in xs
parameter_append xs ys h =
    let d = header xs h in
    let l = d.long in
    let f = d.fits in
    let n = length-append xs ys in
    let e : two_at (xs ++ ys) 2 ≡ two_at xs 2 = rw (get_or-append xs ys 0 2 (omega arith), get_or-append xs ys 0 3 (omega arith)) refl in
    sym (parameter_good (xs ++ ys) (omega arith) (omega (arith, e, n, f))) ∙ ap (λ (k : ℕ). 4 + k) e ∙ sym d.is

parameter_alone : (xs : List ℕ) → (parameter_in xs ≡ 0 → ⊥) → parameter_in (take (parameter_in xs) xs) ≡ parameter_in xs
parameter_alone xs h =
    let d = header xs h in
    let n = parameter_in xs in
    let l = d.long in
    let f = d.fits in
    let i = d.is in
    let t : length (take n xs) ≡ n = length-take-le n xs (omega arith) in
    let e : two_at (take n xs) 2 ≡ two_at xs 2 = rw (get_or-take n xs 2 0 (omega arith), get_or-take n xs 3 0 (omega arith)) refl in
    sym (parameter_good (take n xs) (omega arith) (omega (arith, e, t, f, i))) ∙ omega (arith, e, i)

pub parameter_sizes : Sizes parameter_in
parameter_sizes = record { le = parameter_le; append = parameter_append; alone = parameter_alone }

-- ---- lists of parameters

-- each of ps is a parameter
abbrev pub AllP : List (List ℕ) → Type 0
AllP ps = AllPieces parameter_in ps

pub parameters_all : (list : List ℕ) → AllP (parameters list)
parameters_all = all_pieces parameter_in parameter_sizes

pub parameters_flat : (ps : List (List ℕ)) → AllP ps → parameters (flatten ps) ≡ ps
parameters_flat = pieces_flatten parameter_in parameter_sizes

pub whole_flat : (ps : List (List ℕ)) → AllP ps → whole_list (flatten ps) ≡ true
whole_flat ps a = ap is_none (rest_flatten parameter_in parameter_sizes ps a)

pub flat_parameters : (list : List ℕ) → whole_list list ≡ true → flatten (parameters list) ≡ list
flat_parameters list w = flatten_pieces parameter_in parameter_le list (none_true (rest parameter_in list) w)

-- a whole list that is not empty starts with a parameter
pub whole_some : (list : List ℕ) → whole_list list ≡ true → 1 ≤ length list → parameter_in list ≡ 0 → ⊥
whole_some list w h z = false≢true (sym (whole_stop parameter_in parameter_le list 0 (parameter_in list) refl z h) ∙ w)

all_join : (a b : List (List ℕ)) → AllP a → AllP b → AllP (a ++ b)
all_join [] b h k = k
all_join (s ∷ a) b h k = (h.0, h.1, all_join a b h.2 k)

-- two whole lists, one after the other
module _ (b c : List ℕ) (wb : whole_list b ≡ true) (wc : whole_list c ≡ true) where
  both_all : AllP (parameters b ++ parameters c)
  both_all = all_join (parameters b) (parameters c) (parameters_all b) (parameters_all c)

  both_flat : flatten (parameters b ++ parameters c) ≡ b ++ c
  both_flat = flatten_append (parameters b) (parameters c) ∙ ap₂ (λ (x y : List ℕ). x ++ y) (flat_parameters b wb) (flat_parameters c wc)

  pub both_whole : whole_list (b ++ c) ≡ true
  both_whole = ap whole_list (sym both_flat) ∙ whole_flat (parameters b ++ parameters c) both_all

  pub both_parameters : parameters (b ++ c) ≡ parameters b ++ parameters c
  both_parameters = ap parameters (sym both_flat) ∙ parameters_flat (parameters b ++ parameters c) both_all

-- whole lists, one after another
abbrev pub AllWhole : List (List ℕ) → Type 0
AllWhole [] = Unit {0}
AllWhole (b ∷ bs) = (whole_list b ≡ true) × AllWhole bs

pub all_whole : (bs : List (List ℕ)) → every whole_list bs ≡ true → AllWhole bs
unfolding every
all_whole [] e = tt
all_whole (b ∷ bs) e = (and_left (whole_list b) (every whole_list bs) e, all_whole bs (and_right (whole_list b) (every whole_list bs) e))

pub join_whole : (bs : List (List ℕ)) → AllWhole bs → whole_list (flatten bs) ≡ true
unfolding flatten rest_from
join_whole [] h = refl
join_whole (b ∷ bs) h = both_whole b (flatten bs) h.0 (join_whole bs h.1)

-- ---- a walk over the parameters: at a place a parameter of n bytes stands

-- what `parameter_at` tells of a place in the list
pub parameter_there : (s : List ℕ) (at n : ℕ) → at ≤ length s → n ≡ parameter_in (drop at s) → PieceAt parameter_in s at n
parameter_there s at n h e = record { is = e; within = within parameter_in parameter_le s at n e h }

-- it ends within the list
pub parameter_ends : (s : List ℕ) (at : ℕ) → at ≤ length s → parameter_in (drop at s) + at ≤ length s
parameter_ends s at h = omega (arith, within parameter_in parameter_le s at (parameter_in (drop at s)) refl h)

-- the same of a place where one stands, as the code tells it
pub parameter_found : (s : List ℕ) (at n : ℕ) → at ≤ length s → (let o : Option ℕ = Some n in o) ≡ found (parameter_in (drop at s))
    → (n ≡ parameter_in (drop at s)) × (4 ≤ n) × (at + n ≤ length s)
parameter_found s at n h e =
    let i = found_is (parameter_in (drop at s)) n e in
    let k = found_some (parameter_in (drop at s)) n e in
    (sym i, omega (arith, i, parameter_four (drop at s) (λ z. k (sym i ∙ z))), omega (arith, i, parameter_ends s at h))

pub piece_long : (s : List ℕ) (at n : ℕ) → n ≡ parameter_in (drop at s) → length (take n (drop at s)) ≡ n
piece_long s at n e = length-take-le n (drop at s) (omega (arith, e, parameter_le (drop at s)))
