-- The public calls are promised to the last bit.
use mathlib.Core.Path.{◌≡◌, sym, ◌∙◌}
use mathlib.Core.List.{List}
use Prim.Native.Nat.{ℕ}
use Rattle.crc16.specs.Crc.{check}
use Rattle.crc16.specs.Register.{stepped}

-- two results that the promise of `check_of` allows for one payload are one
pub check_of_one : (payload : List ℕ) (r s : ℕ) → r ≡ check payload → s ≡ check payload → r ≡ s
check_of_one payload r s e f = e ∙ sym f

-- and so are two that the promise of `step` allows
pub step_one : (register byte r s : ℕ) → r ≡ stepped register byte → s ≡ stepped register byte → r ≡ s
step_one register byte r s e f = e ∙ sym f
