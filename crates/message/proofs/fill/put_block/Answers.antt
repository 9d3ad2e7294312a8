-- The digits are put, and what the block holds after them.
use Rattle.std.proofs.Common.{arith, length}
use Rattle.answer.proofs.Laid.{put_fits, puts_long}
use Rattle.message.specs.Blocks.{three_of}
use Rattle.message.proofs.Putting.{puts_join}
use Rattle.message.proofs.fill.put_block.Goals as goal

pub returns : goal.returns
returns c =
    let a = c.args in
    let d = three_of (length a.s.now) in
    let q = c.put-at in
    let u = put_fits a.out.now a.at d q.result q.new.out (omega (arith, c.requires.1)) q.ensures in
    let v = put_fits q.new.out q.result a.s.now c.put.result c.put.new.out (omega (arith, c.requires.1, u.next, puts_long a.out.now d a.at q.result q.new.out (omega (arith, c.requires.1)) u)) c.put.ensures in
    puts_join a.out.now d a.s.now a.at q.result c.put.result q.new.out c.put.new.out (omega (arith, c.requires.1)) u v
