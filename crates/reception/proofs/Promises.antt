-- The public calls are promised to the last field, and what a byte keeps of a reception that a device can be in.
use mathlib.Core.Path.{◌≡◌, refl, sym, ap, ◌∙◌}
use mathlib.Core.Bool.{Bool, true, false, cond}
use mathlib.Core.List.{List}
use Prim.Native.Nat.{ℕ, ◌≤◌}
use native.Mathlib.Omega.{arith}
use lib.ListN.{get_or, drop}
use lib.Dec.{eqb}
use Rattle.std.proofs.lemmas.Bool.Decides.{nat_tests}
use Rattle.reception.specs.declared.Reception.{Reception}
use Rattle.reception.specs.declared.Reception.TheVariants.{Idle, InData, After13h, FirstCheck, SecondCheck}
use Rattle.reception.specs.declared.Line.{Line}
use Rattle.reception.specs.declared.Told.{Told}
use Rattle.reception.specs.declared.Told.TheVariants.{Nothing, Payload, Complete}
use Rattle.reception.specs.declared.Took.{Took}
use Rattle.reception.specs.Cases.{code_of, first_of, reception_of, told_of, answer_of}
use Rattle.reception.specs.Reception.{line_of, took_of, idle, placed, from_idle, from_data, from13h, taken_in, taken}

-- ---- the numbers and values of the enums' cases stand for one case each

pub reception_back : (r : Reception) → reception_of (code_of r) (first_of r) ≡ r
unfolding reception_of
reception_back Idle = refl
reception_back InData = refl
reception_back After13h = refl
reception_back FirstCheck = refl
reception_back (SecondCheck a) = refl

-- from what a byte was
abbrev told_back : List ℕ → Told
told_back vs = cond (eqb (get_or vs 0 0) 0) Nothing (cond (eqb (get_or vs 0 0) 1) (Payload (get_or vs 1 0) (get_or vs 2 0)) (Complete (get_or vs 1 0) (get_or vs 2 0)))

told_back_lem : (t : Told) → told_back (told_of t) ≡ t
told_back_lem Nothing = refl
told_back_lem (Payload at b) = refl
told_back_lem (Complete a b) = refl

spoiled_back : (b : Bool) → eqb (cond b 1 0) 1 ≡ b
spoiled_back true = refl
spoiled_back false = refl

-- from a whole answer
abbrev took_back : List ℕ → Took
took_back vs = took_of (line_of (reception_of (get_or vs 0 0) (get_or vs 1 0)) (eqb (get_or vs 2 0) 1) (get_or vs 3 0)) (told_back (drop 4 vs))

took_back_lem : (t : Took) → took_back (answer_of t) ≡ t
unfolding answer_of
took_back_lem t =
    let a = reception_back t.line.state in
    let b = spoiled_back t.line.spoiled in
    let c = told_back_lem t.told in
    λ i. took_of (line_of (a i) (b i) t.line.count) (c i)

-- two answers of the same numbers are one
pub answer_one : (r s : Took) → answer_of r ≡ answer_of s → r ≡ s
answer_one r s e = sym (took_back_lem r) ∙ ap took_back e ∙ took_back_lem s

-- ---- ONE RESULT: two results that the promise of `take` allows are one, and so for `Line::idle`

pub take_one : (line : Line) (b : ℕ) (r s : Took) → answer_of r ≡ answer_of (taken line b) → answer_of s ≡ answer_of (taken line b) → r ≡ s
take_one line b r s e f = answer_one r s (e ∙ sym f)

pub idle_line_one : (r s : Line) → r ≡ idle → s ≡ idle → r ≡ s
idle_line_one r s e f = e ∙ sym f

-- ---- no byte leaves more than 2,048 payload bytes placed

placed_within : (line : Line) (b : ℕ) → line.count ≤ 2048 → (placed line b).line.count ≤ 2048
unfolding placed
placed_within line b h = grind (arith, nat_tests)

data_within : (line : Line) (b : ℕ) → line.count ≤ 2048 → (from_data line b).line.count ≤ 2048
unfolding from_data
data_within line b h = grind (arith, nat_tests, placed_within)

pair_within : (line : Line) (b : ℕ) → line.count ≤ 2048 → (from13h line b).line.count ≤ 2048
unfolding from13h
pair_within line b h = grind (arith, nat_tests, placed_within)

idle_within : (line : Line) (b : ℕ) → line.count ≤ 2048 → (from_idle line b).line.count ≤ 2048
unfolding from_idle
idle_within line b h = grind (arith, nat_tests)

in_within : (state : Reception) (line : Line) (b : ℕ) → line.count ≤ 2048 → (taken_in state line b).line.count ≤ 2048
in_within Idle line b h = idle_within line b h
in_within InData line b h = data_within line b h
in_within After13h line b h = pair_within line b h
in_within FirstCheck line b h = h
in_within (SecondCheck first) line b h = omega arith

pub taken_within : (line : Line) (b : ℕ) → line.count ≤ 2048 → (taken line b).line.count ≤ 2048
unfolding taken
taken_within line b h = in_within line.state line b h
