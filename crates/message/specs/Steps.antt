-- What the private functions come to. No public promise cites it, and no reader has to believe it.
use Rattle.std.specs.Prelude.{ℕ, cond, eqb, length, Result, Ok, Err}
use mathlib.Core.List.{List, flatten}
use Rattle.answer.specs.declared.refusal.Refusal.{Refusal}
use Rattle.answer.specs.declared.refusal.Refusal.TheVariants.{NoParameter, LongParameter}
use Rattle.parameters.specs.Parameters.{whole_list}
use Rattle.message.specs.Blocks.{fill}

-- why a list is refused that its blocks do not hold to its end
abbrev pub unheld : List ℕ → Refusal
unheld list = cond (whole_list list) LongParameter NoParameter

-- how many blocks a list fills, where they hold it to its end
abbrev pub measured : List ℕ → Result ℕ Refusal
measured list = cond (eqb (length (flatten (fill list))) (length list)) (Ok (length (fill list))) (Err (unheld list))
