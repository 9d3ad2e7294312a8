-- `picking::walk::measure` meets its contract: each turn takes what is shown from the room and from what is left.
use Rattle.std.proofs.Common.{rules, ◌≡◌, ◌≤◌, ◌<◌, ◌-◌, length, ap}
use native.Mathlib.Omega.{arith}
use borrow.Author.Tests.{lt-ltb, le-ltb}
use Rattle.answer.specs.Pieces.{pieces}
use Rattle.objects.specs.Object.{object_size}
use Rattle.picking.specs.Claims.{pieces_picked}
use Rattle.picking.proofs.Walking.{turn_tag, turn_length, turn_none}
use Rattle.picking.proofs.walk.measure.Goals as goal

pub shown-requires : goal.shown-requires
shown-requires c = turn_tag c.loop-tag.tag-iterator.rest.now c.next.new.self.rest.now c.in-Some.tag.now c.in-Some.ensures.steps

pub returns-in_err-room : goal.returns-in_err-room
returns-in_err-room c =
    let n = turn_length c.loop-tag.tag-iterator.rest.now c.next.new.self.rest.now c.in-Some.tag.now c.in-Some.ensures.steps (pieces object_size c.args.objects.now) in
    let s = ap length c.shown.ensures in
    let h : c.loop-tag.room < length c.shown.result.now = search rules in
    let i = c.loop-tag.invariant in
    let l = lt-ltb c.args.room (length (pieces_picked c.args.tags.now c.args.objects.now)) (omega arith) in
    search rules

pub loop-tag-preserved : goal.loop-tag-preserved
loop-tag-preserved c =
    let n = turn_length c.loop-tag.tag-iterator.rest.now c.next.new.self.rest.now c.in-Some.tag.now c.in-Some.ensures.steps (pieces object_size c.args.objects.now) in
    let s = ap length c.shown.ensures in
    let h : length c.shown.result.now ≤ c.loop-tag.room = search rules in
    let r : c.in_ok-room.room ≡ c.loop-tag.room - length c.shown.result.now = search rules in
    let i = c.loop-tag.invariant in
    (tt, tt, omega arith)

pub returns : goal.returns
returns c =
    let n = ap length (turn_none c.loop-tag.tag-iterator.rest.now (pieces object_size c.args.objects.now) c.in-None.ensures.steps.0) in
    let i = c.loop-tag.invariant in
    let l = le-ltb c.args.room (length (pieces_picked c.args.tags.now c.args.objects.now)) (omega arith) in
    search rules
