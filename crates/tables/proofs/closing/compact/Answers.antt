-- `tables::closing::compact` meets its contract: each turn passes a record, and at the end none stands.
use mathlib.Core.Path.{sym, ◌∙◌}
use native.Mathlib.Omega.{arith}
use lib.ListN.{drop, take}
use Rattle.records.proofs.Records.{found_eight}
use Rattle.tables.proofs.Staying.{pack_within, pack_done}
use Rattle.tables.proofs.closing.compact.Goals as goal

pub loop-record-smaller : goal.loop-record-smaller
loop-record-smaller c =
    let l = c.loop-record in
    let f = sym c.in-Some.is ∙ c.record_at.ensures in
    let e = found_eight (drop l.from (take c.args.used l.live)) c.in-Some.record f in
    let w = pack_within c.args.network l.live c.args.used l.from (omega arith) l.invariant.1 c.in-Some.record f in
    omega (arith, e, w)

pub returns : goal.returns
returns c =
    let l = c.loop-record in
    let i = l.invariant in
    pack_done c.args.network c.args.live.now l.live c.args.used l.from l.to (sym c.in_default.is ∙ c.record_at.ensures) (omega arith) i.2 i.3
