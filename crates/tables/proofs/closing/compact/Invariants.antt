-- `tables::closing::compact` meets its contract: what stays of the records before `from` stands before `to`.
use Prim.Native.Nat.{◌≤◌, ◌-◌}
use mathlib.Core.Path.{◌≡◌}
use lib.ListN.{length, take}
use Rattle.tables.specs.Steps.{staying_bytes}
use Rattle.tables.proofs.Staying.{Packing}
use Rattle.tables.proofs.closing.compact.Given as goal

abbrev pub invariant-loop-record : goal.invariant-loop-record
invariant-loop-record l =
    (l.to ≤ l.from) × (l.from ≤ l.used) × (length l.live ≡ length l.initial.live) × Packing (staying_bytes l.network (take l.used l.initial.live)) l.network l.used l.live l.from l.to

abbrev pub decreases-loop-record : goal.decreases-loop-record
decreases-loop-record l = l.used - l.from
