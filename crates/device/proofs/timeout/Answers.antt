-- `device::timeout` meets its contract: refused and unchanged, or the line goes idle.
use Rattle.std.proofs.Common.{refl, sym, length}
use Rattle.state.specs.State.{state_as}
use Rattle.state.proofs.Accepting.{accepted, held_good}
use Rattle.device.specs.Promise.{after_event}
use Rattle.device.specs.Events.Event.{timeout}
use Rattle.device.proofs.Knowing.{known}
use Rattle.device.proofs.Giving.{good_gives, timeout_gives}
use Rattle.device.proofs.timeout.Goals as goal

pub returns : goal.returns
returns c =
    let a = c.args in
    let x = state_as a.device.now a.live.now a.loading.now in
    let z = c.in_ok-judge.ensures.refusal in
    let q = accepted (length a.out.now) x (sym z) in
    good_gives x (after_event timeout x) a.out.now 0 _ _ _ _ z refl
    (timeout_gives x (known x c.judge.ensures.arrays q.sized q.is_sound) (held_good x q.is_sound) a.out.now c.idle.result c.set_line.new.self c.idle.ensures c.set_line.ensures)
