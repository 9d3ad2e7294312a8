-- `tables::closing::move_down` meets its contract: `j` bytes are moved.
use mathlib.Core.Path.{◌≡◌}
use Rattle.tables.specs.Steps.{moved}
use Rattle.tables.proofs.closing.move_down.Given as goal

abbrev pub invariant-loop-j : goal.invariant-loop-j
invariant-loop-j l = l.s ≡ moved l.fn.s l.to l.from l.j
