-- `picking::walk::write` meets its contract: each turn puts what is shown behind what stands there.
use Rattle.std.proofs.Common.{subst, List, ℕ}
use Rattle.answer.specs.Laid.{PutIf}
use Rattle.answer.specs.Pieces.{pieces}
use Rattle.objects.specs.Tag.{tag_size}
use Rattle.objects.specs.Object.{object_size}
use Rattle.picking.specs.Claims.{first_piece, picked_pieces, pieces_picked}
use Rattle.picking.proofs.Walking.{turn_tag, turn_bytes, turn_none, write_more, write_all}
use Rattle.picking.proofs.walk.write.Goals as goal

pub shown-requires : goal.shown-requires
shown-requires c = turn_tag c.loop-tag.tag-iterator.rest.now c.next.new.self.rest.now c.in-Some.tag.now c.in-Some.ensures.steps

pub loop-tag-preserved : goal.loop-tag-preserved
loop-tag-preserved c =
    let l = c.loop-tag in
    let all = pieces_picked c.args.tags.now c.args.objects.now in
    let ps = pieces object_size c.args.objects.now in
    let left = picked_pieces (pieces tag_size l.tag-iterator.rest.now) ps in
    let more = picked_pieces (pieces tag_size c.next.new.self.rest.now) ps in
    let put = subst (λ (s : List ℕ). PutIf l.out l.at s c.put-at.result c.put-at.new.out) c.shown.ensures c.put-at.ensures in
    let turn = turn_bytes l.tag-iterator.rest.now c.next.new.self.rest.now c.in-Some.tag.now c.in-Some.ensures.steps ps in
    (tt, tt, write_more all c.args.out.now left l.at l.out c.requires l.invariant.2 (first_piece c.in-Some.tag.now ps) more c.put-at.result c.put-at.new.out turn put)

pub returns : goal.returns
returns c =
    let l = c.loop-tag in
    let ps = pieces object_size c.args.objects.now in
    write_all (pieces_picked c.args.tags.now c.args.objects.now) c.args.out.now (picked_pieces (pieces tag_size l.tag-iterator.rest.now) ps) l.at l.out c.requires l.invariant.2
    (turn_none l.tag-iterator.rest.now ps c.in-None.ensures.steps.0)
