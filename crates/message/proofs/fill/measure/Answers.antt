-- A list that its blocks do not hold to its end is refused.
use Rattle.std.proofs.Common.{◌≡◌, length, arith, sym, ◌∙◌}
use mathlib.Core.List.{flatten}
use Rattle.message.specs.Blocks.{fill}
use Rattle.message.proofs.Filling.{part_none, measured_not}
use Rattle.message.proofs.fill.measure.Goals as goal

pub returns-else-end-list : goal.returns-else-end-list
returns-else-end-list c =
    let l = c.loop-part in
    let list = c.args.list.now in
    let z = part_none l.part-iterator.rest.now c.in-None.ensures.steps.0 in
    let e : l.end ≡ length (flatten (fill list)) = omega (arith, z, l.invariant.3) in
    simp c.list_refusal.ensures (sym (measured_not list (λ h. c.if-end-list.false (e ∙ h))))
