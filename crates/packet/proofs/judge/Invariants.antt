-- The symbols that are left come to the same judgement.
use Rattle.std.proofs.Common.{◌≡◌, ◌+◌, ◌≤◌, length}
use Rattle.packet.specs.Steps.{symbols}
use Rattle.packet.proofs.Reading.{body_from}
use Rattle.packet.proofs.judge.Given as goal

abbrev pub invariant-loop-symbol : goal.invariant-loop-symbol
invariant-loop-symbol l =
    let left = symbols l.symbol-iterator.rest.now in
    (goal.iterator-loop-symbol).can_next l.symbol-iterator × (goal.iterator-loop-symbol).is_finite l.symbol-iterator
    × (l.count + length left ≤ length l.body) × (body_from 0 0 (symbols l.body) ≡ body_from l.count l.register left)
