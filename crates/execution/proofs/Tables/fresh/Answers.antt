-- `execution::Tables::fresh` meets its contract: field by field.
use mathlib.Core.Path.{ap}
use mathlib.Core.List.{flatten}
use lib.ListN.{replicate}
use Rattle.execution.specs.declared.OpenLoad.{OpenLoad}
use Rattle.execution.specs.declared.Tables.{Tables}
use Rattle.execution.specs.Core.{fresh_core}
use Rattle.execution.specs.Stored.{stored_of}
use Rattle.execution.proofs.Tables.fresh.Goals as goal

pub returns : goal.returns
unfolding stored_of fresh_core flatten
returns c = ap {B = Tables} (λ (l : OpenLoad). record { versions = replicate 1000 0x30; live = record { used = 0; records = 0 }; load = l }) c.none.ensures
