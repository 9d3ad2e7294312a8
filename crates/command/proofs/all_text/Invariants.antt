-- `command::all_text` meets its contract: what is found so far, and the bytes that are left, decide.
use mathlib.Core.Path.{◌≡◌}
use mathlib.Core.Bool.{◌&&◌}
use lib.ListN.{drop}
use Rattle.command.specs.Texts.{all_text}
use Rattle.command.proofs.all_text.Given as goal

abbrev pub invariant-loop-b : goal.invariant-loop-b
invariant-loop-b l = all_text l.s ≡ (l.good && all_text (drop l.b-index l.s))
