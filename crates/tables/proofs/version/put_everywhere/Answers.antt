-- `tables::version::put_everywhere` meets its contract: in the end all hold it.
use mathlib.Core.Path.{◌∙◌}
use native.Mathlib.Omega.{arith}
use Rattle.tables.proofs.Versions.{version_all}
use Rattle.tables.proofs.version.put_everywhere.Goals as goal

pub returns : goal.returns
returns c = let l = c.loop-n in let a = c.args in l.invariant ∙ version_all l.n 100 a.versions.now a.version.now (omega arith) (omega arith)
