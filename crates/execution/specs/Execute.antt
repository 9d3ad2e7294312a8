-- What each payload does, and what it is answered (scope paper, section Commands).
use Rattle.std.specs.Prelude.{ℕ, Bool, true, false, not, ◌&&◌, cond, List, []}
use Rattle.records.specs.Record.{records_of}
use Rattle.records.specs.Store.{fits}
use Rattle.tables.specs.Loading.{taken, keep_all}
use Rattle.tables.specs.Closing.{new_set, new_version, new_versions}
use Rattle.command.specs.declared.Command.{Command}
use Rattle.command.specs.declared.Command.TheVariants.{Opn, Gts, GtsWrong, Tli, TliWrong, Tlr, TlrWrong, Tle, Unknown}
use Rattle.command.specs.Command.{command_of}
use Rattle.execution.specs.CommandTable.{version_in, block_in, response_to}
use Rattle.execution.specs.Core.{Opening, Core, with_load}
use Rattle.execution.specs.Core.Opening.{none, some}

-- ---- what a command does

-- TLI opens a load and drops one already open
abbrev pub opened_for : ℕ → List ℕ → Opening
opened_for n v = some (record { network = n; version = v; kept = record { records = []; over = false }; any = false })

-- a TLR answered 000: the records that are not skipped go to the load, as long as it keeps within the limits. Outside a load it does nothing
unfoldable pub fed : Opening → List ℕ → Opening
fed none block = none
fed (some l) block =
    some (record {
      network = l.network;
      version = l.version;
      kept = keep_all 32768 l.kept (taken l.network (records_of block));
      any = true;
    })

-- the new set of a load is within 32,768 bytes and 512 records. A load that is over had records that it did not keep, with which it is not
unfoldable pub accepts : Core → Opening → Bool
accepts c none = false
accepts c (some l) = not l.kept.over && fits 32768 (new_set l.network c.records l.kept.records)

-- TLE closes the load: the new set is the live one and the versions are the load's; where it passes a limit, live set and versions stay
unfoldable pub ended : Core → Opening → Core
ended c none = c
ended c (some l) =
    cond (accepts c (some l))
    (record {
      records = new_set l.network c.records l.kept.records;
      versions = new_versions l.network (new_version l.any l.version) c.versions;
      load = none;
    })
    (with_load c none)

-- only a good TLI, TLR or TLE changes anything
abbrev pub execute_as : Command → Core → List ℕ → Core
execute_as Opn c p = c
execute_as (Gts n) c p = c
execute_as GtsWrong c p = c
execute_as (Tli n) c p = with_load c (opened_for n (version_in p))
execute_as TliWrong c p = c
execute_as Tlr c p = with_load c (fed c.load (block_in p))
execute_as TlrWrong c p = c
execute_as Tle c p = ended c c.load
execute_as Unknown c p = c

-- WHAT A PAYLOAD DOES
unfoldable pub execute : Core → List ℕ → Core
execute c p = execute_as (command_of p) c p

-- ---- what it is answered

abbrev pub is_open : Opening → Bool
is_open none = false
is_open (some l) = true

-- THE RESPONSE to a payload
unfoldable pub response_of : Core → List ℕ → List ℕ
response_of c p = response_to (command_of p) p c.versions (is_open c.load) (accepts c c.load)
