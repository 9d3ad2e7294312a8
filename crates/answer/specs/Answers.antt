-- What every call that writes to a lent buffer promises (scope paper, section Numbered refusals of calls).
use Rattle.std.specs.Prelude.{ℕ, ◌≡◌, cond, List, [], ◌++◌, length, drop, ltb, Result, Ok, Err}
use Rattle.answer.specs.declared.refusal.Refusal.{Refusal}
use Rattle.answer.specs.declared.refusal.Refusal.TheVariants.{NoRoom}

-- what a definition says of a call: the bytes that it gives, or its refusal
abbrev pub Output : Type 0
Output = Result (List ℕ) Refusal

-- refusal 1, too little room: a buffer shorter than the output. It is judged last, so any other refusal stands
abbrev pub within : ℕ → Output → Output
within room (Ok s) = cond (ltb room (length s)) (Err NoRoom) (Ok s)
within room (Err e) = Err e

-- a success answers the output's length; a refusal answers why
abbrev pub answer_of : Output → Result ℕ Refusal
answer_of (Ok s) = Ok (length s)
answer_of (Err e) = Err e

-- the bytes that are written: a refusal writes none
abbrev pub bytes_of : Output → List ℕ
bytes_of (Ok s) = s
bytes_of (Err e) = []

-- s laid over the start of l; what stands after it stays
abbrev pub over : List ℕ → List ℕ → List ℕ
over s l = s ++ drop (length s) l

-- THE PROMISE: the answer and every byte of the buffer at exit, from what the definition says and the buffer at entry
pub record Gives (output : Output) (out : List ℕ) (r : Result ℕ Refusal) (out' : List ℕ) : Type 0 where
  pub answer : r ≡ answer_of (within (length out) output)
  pub bytes : out' ≡ over (bytes_of (within (length out) output)) out
