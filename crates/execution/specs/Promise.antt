-- What the calls promise, for any struct and any bytes in the stores.
use Rattle.std.specs.Prelude.{ℕ, ◌-◌, ◌≡◌, Bool, true, false, cond, List, ◌++◌, length}
use Rattle.records.specs.Store.{zeros}
use Rattle.tables.specs.declared.Load.{Load}
use Rattle.tables.specs.Loading.{Stocked, stocked}
use Rattle.tables.specs.Closing.{new_bytes, new_records, closes, new_version, new_versions}
use Rattle.command.specs.declared.Command.{Command}
use Rattle.command.specs.declared.Command.TheVariants.{Opn, Gts, GtsWrong, Tli, TliWrong, Tlr, TlrWrong, Tle, Unknown}
use Rattle.command.specs.Command.{command_of}
use Rattle.execution.specs.declared.OpenLoad.{OpenLoad}
use Rattle.execution.specs.declared.Tables.{Tables}
use Rattle.execution.specs.declared.Response.{Response}
use Rattle.execution.specs.CommandTable.{version_in, block_in, response_to}
use Rattle.execution.specs.Stored.{Stored, no_load}

abbrev pub tables_with : Tables → OpenLoad → Tables
tables_with t l = record { versions = t.versions; live = t.live; load = l }

-- a load that TLI opens
abbrev pub new_load : ℕ → List ℕ → OpenLoad
new_load n v = record { opened = true; network = n; version = v; kept = record { used = 0; records = 0; over = false }; any = false }

-- TLI: any open load is dropped, and its store zeroed
abbrev pub opened_in : ℕ → List ℕ → Stored → Stored
opened_in n v s = record { tables = tables_with s.tables (new_load n v); live = s.live; loading = zeros (length s.loading) }

-- TLR in an open load
abbrev pub grown : OpenLoad → Load → OpenLoad
grown l kept = record { opened = true; network = l.network; version = l.version; kept = kept; any = true }

abbrev pub stocked_in : OpenLoad → List ℕ → List ℕ → Stocked
stocked_in l bytes block = stocked l.network (record { load = l.kept; bytes = bytes }) block

abbrev pub fed_in : List ℕ → Stored → Stored
fed_in block s =
    record {
      tables = tables_with s.tables (grown s.tables.load (stocked_in s.tables.load s.loading block).load);
      live = s.live;
      loading = (stocked_in s.tables.load s.loading block).bytes;
    }

-- TLE in an open load
unfoldable pub accepted_in : Stored → Bool
accepted_in s = closes s.tables.load.network s.tables.live s.live s.tables.load.kept s.loading

abbrev pub new_bytes_in : Stored → List ℕ
new_bytes_in s = new_bytes s.tables.load.network s.tables.live s.live s.tables.load.kept s.loading

abbrev pub replaced_in : Stored → Stored
replaced_in s =
    let l = s.tables.load in
    record {
      tables = record {
        versions = new_versions l.network (new_version l.any l.version) s.tables.versions;
        live = record { used = length (new_bytes_in s); records = new_records l.network s.tables.live s.live l.kept };
        load = no_load;
      };
      live = new_bytes_in s ++ zeros (length s.live - length (new_bytes_in s));
      loading = zeros (length s.loading);
    }

-- a load is dropped: by a restart, and by TLE where the new set passes a limit
abbrev pub dropped_in : Stored → Stored
dropped_in s = record { tables = tables_with s.tables no_load; live = s.live; loading = zeros (length s.loading) }

abbrev pub ended_in : Stored → Stored
ended_in s = cond (accepted_in s) (replaced_in s) (dropped_in s)

-- TLR and TLE outside a load do nothing
abbrev pub executed_as : Command → List ℕ → Stored → Stored
executed_as Opn p s = s
executed_as (Gts n) p s = s
executed_as GtsWrong p s = s
executed_as (Tli n) p s = opened_in n (version_in p) s
executed_as TliWrong p s = s
executed_as Tlr p s = cond s.tables.load.opened (fed_in (block_in p) s) s
executed_as TlrWrong p s = s
executed_as Tle p s = cond s.tables.load.opened (ended_in s) s
executed_as Unknown p s = s

unfoldable pub executed : List ℕ → Stored → Stored
executed p s = executed_as (command_of p) p s

unfoldable pub responded : List ℕ → Stored → List ℕ
responded p s = response_to (command_of p) p s.tables.versions s.tables.load.opened (accepted_in s)

-- a response, with zeros after its payload
abbrev pub response_with : List ℕ → Response
response_with p = record { payload = p ++ zeros (19 - length p); length = length p }

-- what is left by a command, and its response
pub record Executed : Type 0 where
  pub tables : Tables
  pub response : Response

-- THE PROMISE of executing a payload: the struct, the response, and every byte of both stores
pub record Executes (p : List ℕ) (s : Stored) (r : Executed) (live' loading' : List ℕ) : Type 0 where
  pub tables' : r.tables ≡ (executed p s).tables
  pub response : r.response ≡ response_with (responded p s)
  pub live_is : live' ≡ (executed p s).live
  pub loading_is : loading' ≡ (executed p s).loading

-- THE PROMISE of dropping a load
pub record Drops (tables : Tables) (loading : List ℕ) (r : Tables) (loading' : List ℕ) : Type 0 where
  pub tables' : r ≡ tables_with tables no_load
  pub store' : loading' ≡ zeros (length loading)
