-- `device::restart` meets its contract: refused and unchanged, or the line goes idle, nothing is held, and the load is dropped.
use Rattle.std.proofs.Common.{refl, sym, length}
use Rattle.state.specs.State.{state_as}
use Rattle.state.proofs.Accepting.{accepted}
use Rattle.device.specs.Promise.{after_event}
use Rattle.device.specs.Events.Event.{restart}
use Rattle.device.proofs.Knowing.{known}
use Rattle.device.proofs.Giving.{good_gives, restart_gives}
use Rattle.device.proofs.restart.Goals as goal

pub returns : goal.returns
returns c =
    let a = c.args in
    let x = state_as a.device.now a.live.now a.loading.now in
    let z = c.in_ok-judge.ensures.refusal in
    let q = accepted (length a.out.now) x (sym z) in
    good_gives x (after_event restart x) a.out.now 0 _ _ _ _ z refl
    (restart_gives x (known x c.judge.ensures.arrays q.sized q.is_sound) a.out.now c.idle.result c.nothing.result c.set_line.new.self c.set_held.new.self c.drop_load.new.self c.drop_load.new.loading
    c.idle.ensures c.nothing.ensures c.set_line.ensures c.set_held.ensures c.drop_load.ensures)
