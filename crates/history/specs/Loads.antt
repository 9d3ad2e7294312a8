-- The loads that TLE closes, from what ran (scope paper, section Commands). Nothing here knows of a device.
use Rattle.std.specs.Prelude.{ℕ, Bool, true, false, List, [], ◌∷◌, ◌++◌}
use Rattle.records.specs.Record.{records_of}
use Rattle.tables.specs.Loading.{taken}
use Rattle.command.specs.declared.Command.{Command}
use Rattle.command.specs.declared.Command.TheVariants.{Opn, Gts, GtsWrong, Tli, TliWrong, Tlr, TlrWrong, Tle, Unknown}
use Rattle.command.specs.Command.{command_of}
use Rattle.execution.specs.CommandTable.{version_in, block_in}
use Rattle.history.specs.Ran.{Ran}
use Rattle.history.specs.Ran.Ran.{payload, restarted}

-- a load: the network and version that TLI named, all records of TLRs answered 000 that are not skipped, kept or not, and whether there was one
pub record Load : Type 0 where
  pub network : ℕ
  pub version : List ℕ
  pub records : List (List ℕ)
  pub any : Bool

-- the load that is open, if one is
pub data Open : Type 0 where
  no_load : Open
  load : Load → Open

-- TLI opens a load and drops one already open
abbrev pub opened : ℕ → List ℕ → Open
opened n v = load (record { network = n; version = v; records = []; any = false })

-- a TLR with a good layout: in a load it is answered 000, and the records that the load takes are the load's
abbrev pub with_block : Open → List ℕ → Open
with_block no_load block = no_load
with_block (load l) block =
    load (record { network = l.network; version = l.version; records = l.records ++ taken l.network (records_of block); any = true })

-- what is open after a command: TLE closes the load; all but TLI, TLR and TLE, and those with a wrong layout, leave it
abbrev pub open_by : Command → Open → List ℕ → Open
open_by Opn o p = o
open_by (Gts n) o p = o
open_by GtsWrong o p = o
open_by (Tli n) o p = opened n (version_in p)
open_by TliWrong o p = o
open_by Tlr o p = with_block o (block_in p)
open_by TlrWrong o p = o
open_by Tle o p = no_load
open_by Unknown o p = o

abbrev pub closing : Open → List Load
closing no_load = []
closing (load l) = l ∷ []

-- the load that a command closes: TLE's
abbrev pub closed_by : Command → Open → List Load
closed_by Opn o = []
closed_by (Gts n) o = []
closed_by GtsWrong o = []
closed_by (Tli n) o = []
closed_by TliWrong o = []
closed_by Tlr o = []
closed_by TlrWrong o = []
closed_by Tle o = closing o
closed_by Unknown o = []

-- a restart drops the open load
unfoldable pub open_after : Open → Ran → Open
open_after o (payload p) = open_by (command_of p) o p
open_after o restarted = no_load

unfoldable pub closed_at : Open → Ran → List Load
closed_at o (payload p) = closed_by (command_of p) o
closed_at o restarted = []

unfoldable pub loads_from : Open → List Ran → List Load
loads_from o [] = []
loads_from o (r ∷ rs) = closed_at o r ++ loads_from (open_after o r) rs

-- THE LOADS THAT TLE CLOSES, in order
abbrev pub loads_of : List Ran → List Load
loads_of rs = loads_from no_load rs

unfoldable pub open_from : Open → List Ran → Open
open_from o [] = o
open_from o (r ∷ rs) = open_from (open_after o r) rs

-- THE LOAD THAT IS OPEN after what ran
abbrev pub open_of : List Ran → Open
open_of rs = open_from no_load rs
