-- `message::write_good` meets its contract.
use Prim.Native.Nat.{◌+◌, ◌*◌}
use mathlib.Core.Path.{◌≡◌}
use native.Mathlib.Omega.{arith}
use lib.ListN.{length}
use Rattle.answer.proofs.Laid.{put_fits}
use Rattle.answer.proofs.Laws.{gives_as, gives_good}
use Rattle.message.specs.Message.{message_of}
use Rattle.message.proofs.Judging.{sized_good, message_long, blocks_room, message_put}
use Rattle.message.proofs.write_good.Goals as goal

pub put_blocks-requires : goal.put_blocks-requires
put_blocks-requires c =
    let a = c.args in
    let q = c.put-at in
    let n = message_long a.head.now a.list.now c.requires.1 in
    blocks_room a.head.now a.list.now a.out.now q.new.out q.result (omega (arith, n, c.requires.2)) (put_fits a.out.now 0 a.head.now q.result q.new.out (omega arith) q.ensures)

pub returns : goal.returns
returns c =
    let a = c.args in
    let m = message_of a.head.now a.list.now in
    let n = message_long a.head.now a.list.now c.requires.1 in
    let k : length a.head.now + length a.list.now + 3 * a.blocks ≡ length m = omega (arith, n, c.requires.2) in
    let q = c.put-at in
    let u = put_fits a.out.now 0 a.head.now q.result q.new.out (omega arith) q.ensures in
    gives_as a.out.now _ _ (sized_good m (omega (arith, k)))
    (gives_good m a.out.now _ _ (omega (arith, k)) (simp k)
    (message_put a.head.now a.list.now a.out.now q.new.out c.put_blocks.new.out _ _ u c.put_blocks.ensures))
