-- The two enums of this crate, case by case: the number and the values that stand for each. The promises cite these (scope paper, sections Reception and
-- Which places take which form).
use Rattle.std.specs.Prelude.{ℕ, cond, List, [], ◌∷◌, eqb}
use Rattle.reception.specs.declared.Reception.{Reception}
use Rattle.reception.specs.declared.Reception.TheVariants.{Idle, InData, After13h, FirstCheck, SecondCheck}
use Rattle.reception.specs.declared.Told.{Told}
use Rattle.reception.specs.declared.Told.TheVariants.{Nothing, Payload, Complete}
use Rattle.reception.specs.declared.Took.{Took}

-- the five states by number: 0 idle, 1 in data, 2 in data after 13h, 3 waiting for the first check byte, 4 for the second
abbrev pub code_of : Reception → ℕ
code_of Idle = 0
code_of InData = 1
code_of After13h = 2
code_of FirstCheck = 3
code_of (SecondCheck a) = 4

-- the first check byte, where it is held
abbrev pub first_of : Reception → ℕ
first_of Idle = 0
first_of InData = 0
first_of After13h = 0
first_of FirstCheck = 0
first_of (SecondCheck a) = a

-- and back: the state that a number stands for
unfoldable pub reception_of : ℕ → ℕ → Reception
reception_of code first = cond (eqb code 0) Idle (cond (eqb code 1) InData (cond (eqb code 2) After13h (cond (eqb code 3) FirstCheck (SecondCheck first))))

-- what a byte was: 0 nothing to keep; 1 a payload byte, by its place in the reception store and its value; 2 a complete packet, by both check bytes
abbrev pub told_of : Told → List ℕ
told_of Nothing = 0 ∷ []
told_of (Payload at b) = 1 ∷ at ∷ b ∷ []
told_of (Complete a b) = 2 ∷ a ∷ b ∷ []

-- THE ANSWER OF `take` in numbers: the state with its first check byte, whether the packet is spoiled, how many payload bytes have a place; what the byte was
unfoldable pub answer_of : Took → List ℕ
answer_of t = code_of t.line.state ∷ first_of t.line.state ∷ cond t.line.spoiled 1 0 ∷ t.line.count ∷ told_of t.told
