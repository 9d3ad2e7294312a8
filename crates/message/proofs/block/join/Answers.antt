-- What a block holds is put, and what those after it hold is left.
use Rattle.std.proofs.Common.{arith, ◌∙◌}
use mathlib.Core.List.{flatten}
use lib.ListN.{drop}
use Rattle.answer.proofs.Laid.{pasted_start}
use Rattle.message.specs.Blocks.{blocks_of}
use Rattle.message.proofs.Putting.{putting_left, putting_all, putting_fits}
use Rattle.message.proofs.Blocks.{held_more, held_none}
use Rattle.message.proofs.block.join.Goals as goal

pub loop-block-preserved : goal.loop-block-preserved
loop-block-preserved c =
    let l = c.loop-block in
    let a = c.args in
    let more = c.next.new.self.rest.now in
    let e = held_more l.block-iterator.rest.now c.in-Some.block.now more c.in-Some.ensures.steps in (
      tt,
      tt,
      putting_fits (flatten (blocks_of a.body.now)) (flatten (blocks_of more)) (drop 3 c.in-Some.block.now) a.out.now 0 l.out l.at
          (putting_left e l.invariant.2) (omega (arith, c.requires)) c.put-at.new.out c.put-at.result (simp c.held.ensures at c.put-at.ensures),
    )

pub returns : goal.returns
returns c =
    let l = c.loop-block in
    let a = c.args in
    (putting_all (flatten (blocks_of a.body.now)) a.out.now 0 l.out l.at (putting_left (held_none l.block-iterator.rest.now c.in-None.ensures.steps.0) l.invariant.2)).bytes
    ∙ pasted_start (flatten (blocks_of a.body.now)) a.out.now
