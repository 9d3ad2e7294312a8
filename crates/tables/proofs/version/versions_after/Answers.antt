-- `tables::version::versions_after` meets its contract.
use native.Mathlib.Omega.{arith}
use borrow.Author.Rules.{rules}
use Rattle.tables.proofs.Versions.{versions_one}
use Rattle.tables.proofs.version.versions_after.Goals as goal

pub returns : goal.returns
returns c =
    let a = c.args in
    versions_one a.network a.version a.versions (λ z. omega arith) (omega arith) (search rules) (search rules) c.put.result c.put.new.out c.put.ensures c.put-2.result c.put-2.new.out c.put-2.ensures
