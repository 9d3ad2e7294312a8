-- The refusals of calls by number (scope paper, section Numbered refusals of calls).
use Rattle.std.specs.Prelude.{ℕ, ◌≡◌, List, ◌++◌, codes, decimal, Result, Ok, Err}
use Rattle.answer.specs.declared.refusal.Refusal.{Refusal}
use Rattle.answer.specs.declared.refusal.Refusal.TheVariants.{NoRoom, WrongSize, Unsound, Empty, TooLong, NoPacket, WrongCheck, NoMessage, NoParameter, LongParameter, LongMessage, NotFound, NoTag, NoLength, CutValue, LongValue}

-- THE NUMBER of a refusal
abbrev pub number_of : Refusal → ℕ
number_of NoRoom = 1
number_of WrongSize = 2
number_of Unsound = 3
number_of Empty = 10
number_of TooLong = 11
number_of NoPacket = 12
number_of WrongCheck = 13
number_of NoMessage = 20
number_of NoParameter = 21
number_of LongParameter = 22
number_of LongMessage = 23
number_of NotFound = 24
number_of NoTag = 30
number_of NoLength = 31
number_of CutValue = 32
number_of LongValue = 33

abbrev pub IsNumberOf : Refusal → ℕ → Type 0
IsNumberOf refusal n = n ≡ number_of refusal

-- a refusal as it is shown: its number, in decimal
abbrev pub text_of : Refusal → List ℕ
text_of refusal = codes "refusal " ++ decimal (number_of refusal)

-- an answer by number: 0 where it is no refusal
abbrev pub number_in : {A : Type 0} → Result A Refusal → ℕ
number_in (Ok x) = 0
number_in (Err refusal) = number_of refusal
