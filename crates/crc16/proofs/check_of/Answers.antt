-- The fold of the payload is its register, and ETB makes it the check.
use Rattle.std.proofs.Common.{rules, ◌≡◌}
use Rattle.std.specs.Prelude.{fold}
use Rattle.crc16.specs.Register.{stepped}
use Rattle.crc16.proofs.Steps.{check_fold}
use Rattle.crc16.proofs.check_of.Goals as goal

pub returns : goal.returns
returns c =
    let text : c.fold-text.result ≡ fold stepped 0 c.args.payload.now = search rules in
    let sum = check_fold c.args.payload.now in
    cc
