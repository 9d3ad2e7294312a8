-- The bytes of the symbols so far are laid over the start.
use Rattle.packet.specs.Steps.{symbols}
use Rattle.packet.proofs.Reading.{Undoes}
use Rattle.packet.proofs.undo.Given as goal

abbrev pub invariant-loop-n : goal.invariant-loop-n
invariant-loop-n l = Undoes (symbols l.body) l.initial.out l.out l.n (symbols l.left)
