-- `tables::closing::staying` meets its contract: a record is counted, or passed over.
use mathlib.Core.Path.{ap, ◌∙◌}
use native.Mathlib.Omega.{arith}
use lib.ListN.{length}
use Rattle.tables.proofs.Staying.{named_by, stay_named, stay_end, count_end, count_named, count_more, long_more, bytes_within, count_within}
use Rattle.tables.proofs.closing.staying.Goals as goal

pub overflow_add-used : goal.overflow_add-used
overflow_add-used c =
    let t = named_by c.args.network c.in-Some.piece.now c.of.result c.is_named.result c.of.ensures c.is_named.ensures ∙ c.if-not-is_named.true in
    let m = long_more c.args.network c.loop-piece.piece-iterator.rest.now c.in-Some.piece.now c.next.new.self.rest.now c.in-Some.ensures.steps t in
    omega (arith, m, c.loop-piece.invariant.2, bytes_within c.args.network c.args.bytes.now)

pub overflow_add-records : goal.overflow_add-records
overflow_add-records c =
    let t = named_by c.args.network c.in-Some.piece.now c.of.result c.is_named.result c.of.ensures c.is_named.ensures ∙ c.if-not-is_named.true in
    let m = count_more c.args.network c.loop-piece.piece-iterator.rest.now c.in-Some.piece.now c.next.new.self.rest.now c.in-Some.ensures.steps t in
    omega (arith, m, c.loop-piece.invariant.3, count_within c.args.network c.args.bytes.now)

pub loop-piece-preserved-then-not-is_named : goal.loop-piece-preserved-then-not-is_named
loop-piece-preserved-then-not-is_named c =
    let t = named_by c.args.network c.in-Some.piece.now c.of.result c.is_named.result c.of.ensures c.is_named.ensures ∙ c.if-not-is_named.true in
    let b = long_more c.args.network c.loop-piece.piece-iterator.rest.now c.in-Some.piece.now c.next.new.self.rest.now c.in-Some.ensures.steps t in
    let m = count_more c.args.network c.loop-piece.piece-iterator.rest.now c.in-Some.piece.now c.next.new.self.rest.now c.in-Some.ensures.steps t in
    (tt, tt, omega (arith, b, c.loop-piece.invariant.2), omega (arith, m, c.loop-piece.invariant.3))

pub loop-piece-preserved : goal.loop-piece-preserved
loop-piece-preserved c =
    let t = named_by c.args.network c.in-Some.piece.now c.of.result c.is_named.result c.of.ensures c.is_named.ensures ∙ c.if-not-is_named.false in
    let b = ap length (stay_named c.args.network c.loop-piece.piece-iterator.rest.now c.in-Some.piece.now c.next.new.self.rest.now c.in-Some.ensures.steps t) in
    let m = count_named c.args.network c.loop-piece.piece-iterator.rest.now c.in-Some.piece.now c.next.new.self.rest.now c.in-Some.ensures.steps t in
    (tt, tt, omega (arith, b, c.loop-piece.invariant.2), omega (arith, m, c.loop-piece.invariant.3))

pub returns : goal.returns
returns c =
    let b = ap length (stay_end c.args.network c.loop-piece.piece-iterator.rest.now c.in-None.ensures.steps.0) in
    let m = count_end c.args.network c.loop-piece.piece-iterator.rest.now c.in-None.ensures.steps.0 in
    record { used = omega (arith, b, c.loop-piece.invariant.2); records = omega (arith, m, c.loop-piece.invariant.3) }
