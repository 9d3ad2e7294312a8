-- The first bytes of what is picked stand over the start of the buffer; the others are left to write.
use Rattle.answer.specs.Pieces.{pieces}
use Rattle.objects.specs.Tag.{tag_size}
use Rattle.objects.specs.Object.{object_size}
use Rattle.picking.specs.Claims.{picked_pieces, pieces_picked}
use Rattle.picking.proofs.Walking.{Written}
use Rattle.picking.proofs.walk.write.Given as goal

abbrev pub invariant-loop-tag : goal.invariant-loop-tag
invariant-loop-tag l =
    (goal.iterator-loop-tag).can_next l.tag-iterator ×
    (goal.iterator-loop-tag).is_finite l.tag-iterator ×
    Written (pieces_picked l.tags l.objects) l.fn.out (picked_pieces (pieces tag_size l.tag-iterator.rest.now) (pieces object_size l.objects)) l.at l.out
