-- `tables::version::put_everywhere` meets its contract: the first `n` places hold the version.
use Prim.Native.Nat.{◌*◌}
use mathlib.Core.Path.{◌≡◌}
use mathlib.Core.List.{◌++◌}
use lib.ListN.{drop}
use Rattle.tables.proofs.Versions.{many}
use Rattle.tables.proofs.version.put_everywhere.Given as goal

abbrev pub invariant-loop-n : goal.invariant-loop-n
invariant-loop-n l = l.versions ≡ many l.n l.version ++ drop (l.n * 10) l.initial.versions
