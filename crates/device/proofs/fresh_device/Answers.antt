-- `device::fresh_device` meets its contract: field by field.
use Rattle.device.specs.Machine.{fresh}
use Rattle.device.specs.Between.{state_of}
use Rattle.device.proofs.fresh_device.Goals as goal

pub returns : goal.returns
unfolding fresh state_of
returns c = simp (c.fresh.ensures, c.nothing.ensures)
