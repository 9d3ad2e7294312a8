-- `device::replying::run` meets its contract: the payload is executed, and its response sent and held.
use Rattle.device.proofs.Running.{response_some, response_short}
use Rattle.device.proofs.replying.run.Goals as goal

pub acknowledge-requires : goal.acknowledge-requires
acknowledge-requires c =
    let e = c.execute-response in
    (response_some _ _ _ _ _ e.ensures, response_short _ _ _ _ _ e.ensures, c.requires.0)
