-- Finding the nth parameter of a number (scope paper, sections Blocks and parameters and Numbered refusals of calls).
use Rattle.std.specs.Prelude.{ℕ, zero, suc, ◌+◌, ◌-◌, ◌≡◌, cond, List, [], ◌∷◌, length, eqb, Option, Some, None, Result, Ok, Err}
use Rattle.std.specs.Borrow.{Bor}
use Rattle.answer.specs.declared.refusal.Refusal.{Refusal}
use Rattle.answer.specs.declared.refusal.Refusal.TheVariants.{NoParameter, NotFound}
use Rattle.answer.specs.Answers.{Output, bytes_of}
use Rattle.parameters.specs.Parameters.{parameters, whole_list, number_of, data_of}

-- those of the parameters that have this number, in order
unfoldable pub numbered : ℕ → List (List ℕ) → List (List ℕ)
numbered number [] = []
numbered number (p ∷ ps) = cond (eqb (number_of p) number) (p ∷ numbered number ps) (numbered number ps)

-- the data of the nth of them, counted from 1; refusal 24 where there is none, so for n = 0 too
unfoldable pub nth : ℕ → List (List ℕ) → Output
nth zero ps = Err NotFound
nth (suc n) [] = Err NotFound
nth (suc zero) (p ∷ ps) = Ok (data_of p)
nth (suc (suc n)) (p ∷ ps) = nth (suc n) ps

-- WHAT IS FOUND: 21 over the whole list, then 24
unfoldable pub find : List ℕ → ℕ → ℕ → Output
find list number n = cond (whole_list list) (nth n (numbered number (parameters list))) (Err NoParameter)

-- where the data of the nth parameter of a number starts, if the first of these parameters starts at `at`; 0 where there is none
unfoldable pub data_at : ℕ → ℕ → ℕ → List (List ℕ) → ℕ
data_at number n at [] = 0
data_at number n at (p ∷ ps) =
    cond (eqb (number_of p) number)
    (cond (eqb n 1) (at + 4) (data_at number (n - 1) (at + length p) ps))
    (data_at number n (at + length p) ps)

-- where in the list the data that is found starts; 0 where it is refused
unfoldable pub start_of : List ℕ → ℕ → ℕ → ℕ
start_of list number n = cond (whole_list list) (data_at number n 0 (parameters list)) 0

-- a part of the caller's own list: its bytes are what is found, and it starts in memory at that place of the list; or the refusal
abbrev pub Part : Bor (List ℕ) → Output → ℕ → Result (Bor (List ℕ)) Refusal → Type 0
Part list found start (Ok r) = (found ≡ Ok r.now) × (r.ref_ptr ≡ (list.ref_ptr.0, start + list.ref_ptr.1))
Part list found start (Err e) = found ≡ Err e

-- THE PROMISE of `find`: what is found as a part of the caller's own list, or the refusal
abbrev pub Finds : Bor (List ℕ) → ℕ → ℕ → Result (Bor (List ℕ)) Refusal → Type 0
Finds list number n r = Part list (find list.now number n) (start_of list.now number n) r

-- THE PROMISE of the part that is handed back: its bytes, and that it is that part of the caller's own list (the place in memory where it
-- starts). Where it is refused it is an empty part, at the list's start
pub record Handed (list : Bor (List ℕ)) (number n : ℕ) (r : Bor (List ℕ)) : Type 0 where
  pub bytes : r.now ≡ bytes_of (find list.now number n)
  pub place : r.ref_ptr ≡ (list.ref_ptr.0, start_of list.now number n + list.ref_ptr.1)

-- THE PROMISE of the refusal: that of `find`, if it refuses
abbrev pub refusal_of : Output → Option Refusal
refusal_of (Ok s) = None
refusal_of (Err e) = Some e
