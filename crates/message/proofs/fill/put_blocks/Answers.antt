-- A block is put, and those after it are left.
use mathlib.Core.List.{map, flatten}
use Rattle.message.specs.Blocks.{block_of, fill}
use Rattle.message.proofs.Putting.{putting_left, putting_all, putting_room, putting_more}
use Rattle.message.proofs.Filling.{blocks_more, blocks_none, part_999}
use Rattle.message.proofs.fill.put_blocks.Goals as goal

pub put_block-at-requires : goal.put_block-at-requires
put_block-at-requires c =
    let l = c.loop-part in
    let a = c.args in
    let left = l.part-iterator.rest.now in
    let s = c.in-Some.part.now in
    let more = c.next.new.self.rest.now in
    let e = c.in-Some.ensures.steps in (
      part_999 left s more e,
      putting_room (flatten (map block_of (fill a.list.now))) (flatten (map block_of (fill more))) (block_of s) a.out.now a.start l.out l.at
          (putting_left (blocks_more left s more e) l.invariant.2) c.requires,
    )

pub loop-part-preserved : goal.loop-part-preserved
loop-part-preserved c =
    let l = c.loop-part in
    let a = c.args in
    let left = l.part-iterator.rest.now in
    let s = c.in-Some.part.now in
    let more = c.next.new.self.rest.now in
    let e = c.in-Some.ensures.steps in (
      tt,
      tt,
      putting_more (flatten (map block_of (fill a.list.now))) (flatten (map block_of (fill more))) (block_of s) a.out.now a.start l.out l.at
          (putting_left (blocks_more left s more e) l.invariant.2) c.requires _ _ c.put_block-at.ensures,
    )

pub returns : goal.returns
returns c =
    let l = c.loop-part in
    let a = c.args in
    putting_all (flatten (map block_of (fill a.list.now))) a.out.now a.start l.out l.at (putting_left (blocks_none l.part-iterator.rest.now c.in-None.ensures.steps.0) l.invariant.2)
