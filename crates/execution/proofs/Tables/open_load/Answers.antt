-- `execution::Tables::open_load` meets its contract: by whether the version is held.
use Rattle.std.proofs.Common.{true, false, sym, ◌∙◌}
use Rattle.execution.proofs.Choosing.{leaves_opened}
use Rattle.execution.proofs.Tables.open_load.Goals as goal

pub returns-then-eq : goal.returns-then-eq
returns-then-eq c =
    let a = c.args in
    leaves_opened a.self.now a.network a.payload.now a.loading.now _ _ _ _ true _ _ c.version_in-version.ensures c.as_slice.ensures c.version_of.ensures (sym c.eq.ensures ∙ c.if-eq.true) c.new-self.ensures
    c.text.ensures c.zero_store.ensures

pub returns-else-eq : goal.returns-else-eq
returns-else-eq c =
    let a = c.args in
    leaves_opened a.self.now a.network a.payload.now a.loading.now _ _ _ _ false _ _ c.version_in-version.ensures c.as_slice.ensures c.version_of.ensures (sym c.eq.ensures ∙ c.if-eq.false) c.new-self.ensures
    c.text-else-eq.ensures c.zero_store.ensures
