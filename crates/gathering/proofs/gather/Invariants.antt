-- `gathering::gather` meets its contract. The invariant: what is gathered of the whole piece is what is gathered of the rest from here.
use mathlib.Core.Path.{◌≡◌}
use lib.ListN.{length, drop}
use Rattle.gathering.specs.Gathering.{gathered}
use Rattle.gathering.proofs.gather.Given as goal

abbrev pub invariant-loop-i : goal.invariant-loop-i
invariant-loop-i l = (length l.store ≡ length l.initial.store) × (gathered l.resend l.initial.at l.initial.store 0 l.piece ≡ gathered l.resend l.at l.store l.i (drop l.i l.piece))
