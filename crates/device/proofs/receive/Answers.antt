-- `device::receive` meets its contract: refused and unchanged, or the piece is taken.
use Rattle.std.proofs.Common.{sym, length}
use Rattle.state.specs.State.{state_as}
use Rattle.state.proofs.Accepting.{accepted}
use Rattle.device.proofs.receive.Goals as goal

pub take_piece-requires : goal.take_piece-requires
take_piece-requires c =
    let a = c.args in
    let q = accepted (length a.out.now) (state_as a.device.now a.live.now a.loading.now) (sym (c.in_ok-judge.ensures.refusal)) in
    (q.roomy, q.sized, q.is_sound, c.judge.ensures.arrays)
