-- `tables::closing::make_live` meets its contract.
use mathlib.Core.Path.{sym, ◌∙◌}
use Rattle.tables.proofs.Closings.{stays_so, made}
use Rattle.tables.proofs.closing.make_live.Goals as goal

pub returns-then-not-keeps_limits : goal.returns-then-not-keeps_limits
returns-then-not-keeps_limits c =
    let a = c.args in
    stays_so a.network a.extent a.live.now a.load a.loading.now c.min-used.result c.min-n.result c.min-used.ensures c.min-n.ensures
    c.staying-stays.result c.staying-stays.ensures (sym c.if-not-keeps_limits.true ∙ c.keeps_limits.ensures)

pub returns : goal.returns
returns c =
    let a = c.args in
    made a.network a.extent a.live.now a.load a.loading.now c.min-used.result c.min-n.result c.min-used.ensures c.min-n.ensures
    c.staying-stays.result c.staying-stays.ensures (sym c.if-not-keeps_limits.false ∙ c.keeps_limits.ensures) c.replace-end.result c.replace-end.new.live c.replace-end.ensures
