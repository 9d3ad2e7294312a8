-- `execution::Tables::end_load` meets its contract: by whether a load is open and whether its new set passes a limit.
use Rattle.execution.proofs.Choosing.{ends_dropped, ends_replaced}
use Rattle.execution.proofs.Tables.end_load.Goals as goal

pub returns-in_default : goal.returns-in_default
returns-in_default c =
    let a = c.args in
    let k = c.close_load in
    ends_dropped a.self.now a.live.now a.loading.now k.new.live k.new.loading c.if-not-load.false k.result k.ensures c.in_default.is _ _ c.none-self.ensures c.text-in_default.ensures

pub returns : goal.returns
returns c =
    let a = c.args in
    let k = c.close_load in
    ends_replaced a.self.now a.live.now a.loading.now k.new.live k.new.loading c.if-not-load.false k.result k.ensures _ c.in-Some.is _ _ _ _ c.version_after.ensures c.versions_after.ensures c.none.ensures c.text-2.ensures
