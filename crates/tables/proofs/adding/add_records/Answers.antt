-- `tables::adding::add_records` meets its contract: a record is added, or passed over.
use mathlib.Core.Path.{◌∙◌}
use Rattle.tables.proofs.Stocking.{both, taken_by, left_skip, left_more}
use Rattle.tables.proofs.adding.add_records.Goals as goal

pub loop-bytes-preserved-then-is_taken : goal.loop-bytes-preserved-then-is_taken
loop-bytes-preserved-then-is_taken c =
    let l = c.loop-bytes in
    let a = c.args in
    let t = taken_by a.network c.in-Some.bytes.now c.of.result c.is_taken.result c.of.ensures c.is_taken.ensures ∙ c.if-is_taken.true in
    let r = c.add_record-grown in
    (tt, tt, left_more a.network (both a.load a.store.now) a.records.now l.grown l.store l.bytes-iterator.rest.now l.invariant.2 c.in-Some.bytes.now c.next.new.self.rest.now c.in-Some.ensures.steps t r.result r.new.store r.ensures)

pub loop-bytes-preserved : goal.loop-bytes-preserved
loop-bytes-preserved c =
    let l = c.loop-bytes in
    let a = c.args in
    let t = taken_by a.network c.in-Some.bytes.now c.of.result c.is_taken.result c.of.ensures c.is_taken.ensures ∙ c.if-is_taken.false in
    (tt, tt, left_skip a.network (both a.load a.store.now) a.records.now l.grown l.store l.bytes-iterator.rest.now l.invariant.2 c.in-Some.bytes.now c.next.new.self.rest.now c.in-Some.ensures.steps t)
