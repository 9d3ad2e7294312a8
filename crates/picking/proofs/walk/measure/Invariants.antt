-- What is left to measure and the room that is left: their difference stays.
use Rattle.std.proofs.Common.{◌≡◌, ◌+◌, length}
use Rattle.answer.specs.Pieces.{pieces}
use Rattle.objects.specs.Tag.{tag_size}
use Rattle.objects.specs.Object.{object_size}
use Rattle.picking.specs.Claims.{picked_pieces, pieces_picked}
use Rattle.picking.proofs.walk.measure.Given as goal

abbrev pub invariant-loop-tag : goal.invariant-loop-tag
invariant-loop-tag l =
    (goal.iterator-loop-tag).can_next l.tag-iterator ×
    (goal.iterator-loop-tag).is_finite l.tag-iterator ×
    (length (pieces_picked l.tags l.objects) + l.room ≡ l.fn.room + length (picked_pieces (pieces tag_size l.tag-iterator.rest.now) (pieces object_size l.objects)))
