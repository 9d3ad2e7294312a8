-- A list that its blocks hold to its end is written.
use Rattle.std.proofs.Common.{sym, ◌∙◌}
use Rattle.answer.proofs.Laws.{gives_as}
use Rattle.message.proofs.Judging.{write_held}
use Rattle.message.proofs.write_message.Goals as goal

pub returns : goal.returns
returns c =
    let a = c.args in
    let good = sym c.head_good.ensures ∙ c.if-not-head_good.false in
    let held = write_held a.head.now a.response a.list.now c.in_ok-blocks.blocks good (sym c.in_ok-blocks.was ∙ c.measure.ensures) in
    gives_as a.out.now c.write_good.new.out c.write_good.result held.2 c.write_good.ensures
