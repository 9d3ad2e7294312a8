-- What the promises of the calls fix: one result each, and that the part that is handed back is the data that is found.
use mathlib.Core.Path.{◌≡◌, sym, ◌∙◌}
use mathlib.Core.Bool.{Bool}
use mathlib.Core.List.{List}
use Prim.Native.Nat.{ℕ}
use lib.ListN.{length, take, drop}
use denote.Ref.{Bor}
use Rattle.std.specs.Prelude.{Option, Result, Ok, Err}
use Rattle.answer.specs.declared.refusal.Refusal.{Refusal}
use Rattle.answer.specs.Pieces.{found}
use Rattle.answer.specs.Answers.{Output}
use Rattle.answer.proofs.Promises.{same_good, not_good}
use Rattle.parameters.specs.Parameters.{parameter_in, whole_list}
use Rattle.parameters.specs.Finding.{find, start_of, Finds, Handed, refusal_of}
use Rattle.parameters.proofs.Finding.{found_there}

same_refused : {e f : Refusal} → (let a : Output = Err e in a) ≡ Err f → e ≡ f
same_refused i = cc

-- ---- each promise allows one result

pub parameter_at_one : (s : List ℕ) (at : ℕ) (r q : Option ℕ) → r ≡ found (parameter_in (drop at s)) → q ≡ found (parameter_in (drop at s)) → r ≡ q
parameter_at_one s at r q e f = e ∙ sym f

pub whole_list_one : (list : List ℕ) (r s : Bool) → r ≡ whole_list list → s ≡ whole_list list → r ≡ s
whole_list_one list r s e f = e ∙ sym f

-- the bytes of the part and its place in memory are settled; what is left of a reference is the name of its borrow, which no code sees
pub find_parameter_one : (list : Bor (List ℕ)) (number n : ℕ) (r s : Bor (List ℕ)) → Handed list number n r → Handed list number n s → (r.now ≡ s.now) × (r.ref_ptr ≡ s.ref_ptr)
find_parameter_one list number n r s e f = (e.bytes ∙ sym f.bytes, e.place ∙ sym f.place)

-- two answers of the search: the same bytes at the same place in memory, or the same refusal
abbrev pub SameFound : Result (Bor (List ℕ)) Refusal → Result (Bor (List ℕ)) Refusal → Type 0
SameFound (Ok r) (Ok s) = (r.now ≡ s.now) × (r.ref_ptr ≡ s.ref_ptr)
SameFound (Ok r) (Err e) = ⊥
SameFound (Err e) (Ok r) = ⊥
SameFound (Err e) (Err f) = e ≡ f

pub find_one : (list : Bor (List ℕ)) (number n : ℕ) (r s : Result (Bor (List ℕ)) Refusal) → Finds list number n r → Finds list number n s → SameFound r s
find_one list number n (Ok r) (Ok s) e f = (same_good (sym e.0 ∙ f.0), e.1 ∙ sym f.1)
find_one list number n (Ok r) (Err b) e f = not_good (sym f ∙ e.0)
find_one list number n (Err a) (Ok s) e f = not_good (sym e ∙ f.0)
find_one list number n (Err a) (Err b) e f = same_refused (sym e ∙ f)

pub find_refusal_one : (list : List ℕ) (number n : ℕ) (r s : Option Refusal) → r ≡ refusal_of (find list number n) → s ≡ refusal_of (find list number n) → r ≡ s
find_refusal_one list number n r s e f = e ∙ sym f

-- ---- finding: the part that is handed back is the data that is found

-- the bytes of the list from `start_of` on are the data
pub part_found : (list : List ℕ) (number n : ℕ) (d : List ℕ) → find list number n ≡ Ok d → take (length d) (drop (start_of list number n) list) ≡ d
part_found = found_there
