-- `picking::faults::check_objects` meets its contract: what is left is read, and its refusal is that of the list.
use Rattle.std.proofs.Common.{rules}
use Rattle.picking.proofs.Lists.{objects_bad}
use Rattle.picking.proofs.faults.check_objects.Goals as goal

pub returns-in_err-read_object : goal.returns-in_err-read_object
returns-in_err-read_object c =
    let left = c.rest_of-left in
    let bad = objects_bad c.args.objects.now left.result.now left.ensures c.in_err-read_object.field-0.0 (search rules) (search rules) in
    search rules
