-- `device::take_piece` meets its contract: bytes are gathered, and the one that is answered, if there is one, is answered.
use Rattle.std.proofs.Common.{ap, ◌∙◌}
use Rattle.state.specs.declared.Device.{Device}
use Rattle.state.specs.State.{state_as, can_resend}
use Rattle.state.proofs.Accepting.{held_short, line_good, held_good}
use Rattle.gathering.specs.Gathering.{asks_in}
use Rattle.device.proofs.Knowing.{known}
use Rattle.device.proofs.Giving.{got_within, got_asks, silent_gives, asked_gives}
use Rattle.device.proofs.take_piece.Goals as goal

pub returns-in-None : goal.returns-in-None
returns-in-None c =
    let x = state_as c.args.device.now c.args.live.now c.args.loading.now in
    let g = c.gather-got in
    silent_gives x c.args.piece.now c.line.result c.can_resend-resend.result g.result g.new.store c.line.ensures c.can_resend-resend.ensures g.ensures
    (known x c.requires.3 c.requires.1 c.requires.2) (held_good x c.requires.2) c.set_line.new.self c.set_line.ensures c.args.out.now c.in-None.is

pub reply_to-written-requires : goal.reply_to-written-requires
reply_to-written-requires c =
    let x = state_as c.args.device.now c.args.live.now c.args.loading.now in
    let g = c.gather-got in
    let h = got_within x c.args.piece.now c.line.result c.can_resend-resend.result g.result g.new.store c.line.ensures c.can_resend-resend.ensures g.ensures (line_good x c.requires.2) in
    let k = got_asks x c.args.piece.now c.line.result c.can_resend-resend.result g.result g.new.store c.line.ensures c.can_resend-resend.ensures g.ensures c.in-Some.b c.in-Some.is in
    let s = held_short c.args.device.now.held (held_good x c.requires.2) in
    let e = c.set_line.ensures in
    (c.requires.0, simp e h, simp e s, ap (λ (d : Device). asks_in d.reception (can_resend d.held) c.in-Some.b) e ∙ k)

pub returns-in-Some : goal.returns-in-Some
returns-in-Some c =
    let x = state_as c.args.device.now c.args.live.now c.args.loading.now in
    let g = c.gather-got in
    asked_gives x c.args.piece.now c.line.result c.can_resend-resend.result g.result g.new.store c.line.ensures c.can_resend-resend.ensures g.ensures
    (known x c.requires.3 c.requires.1 c.requires.2) (held_good x c.requires.2) c.set_line.new.self c.set_line.ensures c.args.out.now c.in-Some.b _ _ _ _ c.in-Some.is c.reply_to-written.ensures
