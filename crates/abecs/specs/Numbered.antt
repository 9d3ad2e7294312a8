-- How a refusal crosses the boundary: by its number, 0 for none. Each promise is that of the call behind it.
use Rattle.std.specs.Prelude.{ℕ, ◌≡◌, List, length, Result, Ok, Err}
use Rattle.answer.specs.declared.refusal.Refusal.{Refusal}
use Rattle.answer.specs.Refusals.{number_of}
use Rattle.answer.specs.Answers.{Output, within, answer_of, bytes_of, over}
use Rattle.objects.specs.declared.ObjectRead.{ObjectRead}
use Rattle.abecs.specs.declared.numbered.Answer.{Answer}
use Rattle.abecs.specs.declared.numbered.ObjectOf.{ObjectOf}

-- a success answers 0 and the output's length; a refusal answers its number and the length 0
abbrev pub answer_as : Result ℕ Refusal → Answer
answer_as (Ok n) = record { refusal = 0; length = n }
answer_as (Err e) = record { refusal = number_of e; length = 0 }

-- THE PROMISE of the codec calls in C: the answer and every byte of the buffer at exit, from what the definition says and the buffer at entry
pub record Gives (output : Output) (out : List ℕ) (r : Answer) (out' : List ℕ) : Type 0 where
  pub answer : r ≡ answer_as (answer_of (within (length out) output))
  pub bytes : out' ≡ over (bytes_of (within (length out) output)) out

-- the lengths of an object; a refused one has none
abbrev pub object_as : Result ObjectRead Refusal → ObjectOf
object_as (Ok o) = record { refusal = 0; tag = o.tag; header = o.header; whole = o.whole }
object_as (Err e) = record { refusal = number_of e; tag = 0; header = 0; whole = 0 }

-- ---- the conversions

abbrev pub IsAnswerOf : Result ℕ Refusal → Answer → Type 0
IsAnswerOf r a = a ≡ answer_as r

abbrev pub IsObjectOf : Result ObjectRead Refusal → ObjectOf → Type 0
IsObjectOf r o = o ≡ object_as r
