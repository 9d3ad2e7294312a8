-- `device::start` meets its contract: stores of their size become stores with no record.
use mathlib.Core.Path.{◌≡◌, refl, sym, ap, ◌∙◌}
use Rattle.records.specs.Store.{zeros}
use Rattle.records.proofs.Stores.{store_none}
use Rattle.execution.specs.Core.{fresh_core}
use Rattle.execution.specs.Stored.{stored_of}
use Rattle.state.specs.State.{state_as}
use Rattle.state.specs.Sound.{is_sized}
use Rattle.state.proofs.Accepting.{sized_both}
use Rattle.device.specs.Machine.{fresh}
use Rattle.device.specs.Between.{state_of}
use Rattle.device.proofs.start.Goals as goal

-- the stores of a fresh device are all zero
fresh-live : (state_of fresh).live ≡ zeros 32768
unfolding fresh state_of stored_of fresh_core
fresh-live = store_none 32768

fresh-loading : (state_of fresh).loading ≡ zeros 32768
unfolding fresh state_of stored_of fresh_core
fresh-loading = refl

pub returns : goal.returns
unfolding is_sized
returns c =
    let a = c.args in
    let e = sym c.sizes_good.ensures ∙ c.if-not-sizes_good.false in
    let l = sized_both (state_as (state_of fresh).device a.live.now a.loading.now) e in
    record {
      result = simp (e, c.fresh_device-device.ensures);
      live_is = simp e (c.zero_store.ensures ∙ ap zeros l.0 ∙ sym fresh-live);
      loading_is = simp e (c.zero_store-2.ensures ∙ ap zeros l.1 ∙ sym fresh-loading);
    }
