-- `device::replying::complete` meets its contract: the test picks the case.
use mathlib.Core.Path.{refl, sym, ◌∙◌}
use Rattle.state.specs.State.{state_as}
use Rattle.device.proofs.Running.{completed_good, completed_bad, does_as, does_says}
use Rattle.device.proofs.replying.complete.Goals as goal

pub returns-then-is_good : goal.returns-then-is_good
returns-then-is_good c =
    let a = c.args in
    let e = completed_good (state_as a.device.now a.live.now a.loading.now) a.first a.second _ refl (sym c.is_good.ensures ∙ c.if-is_good.true) in
    does_as _ _ _ _ _ _ _ e c.run.ensures

pub returns-else-is_good : goal.returns-else-is_good
returns-else-is_good c =
    let a = c.args in
    let x = state_as a.device.now a.live.now a.loading.now in
    let e = completed_bad x a.first a.second _ refl (sym c.is_good.ensures ∙ c.if-is_good.false) in
    does_as _ _ _ _ _ _ _ e (does_says x _ _ _ _ c.refuse.ensures)
