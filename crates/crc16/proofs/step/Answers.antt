-- `crc16::step` meets its contract: a register of sixteen bits is the number of its bits.
use Rattle.crc16.specs.Register.{stepped}
use Rattle.crc16.proofs.Steps.{register_bits}
use borrow.Author.Rules.{rules}
use Rattle.crc16.proofs.step.Goals as goal

pub returns : goal.returns
unfolding stepped
returns c = register_bits c.one_byte.result _ (search rules) c.one_byte.ensures
