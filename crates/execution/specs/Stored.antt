-- The same as the code holds it: a struct and the bytes of two lent stores. Both ways between the two, and the rules that refusal 3 judges by
-- (scope paper, sections Commands and Numbered refusals of calls).
use Rattle.std.specs.Prelude.{ℕ, Bool, true, false, not, ◌&&◌, ◌||◌, cond, length, take, ltb, eqb}
use mathlib.Core.List.{List, flatten}
use Rattle.records.specs.Record.{recs}
use Rattle.records.specs.Store.{zeros, store_of, all_zero, sound_store}
use Rattle.tables.specs.declared.Extent.{Extent}
use Rattle.tables.specs.declared.Load.{Load}
use Rattle.tables.specs.Loading.{Kept}
use Rattle.command.specs.Texts.{all_text}
use Rattle.execution.specs.declared.OpenLoad.{OpenLoad}
use Rattle.execution.specs.declared.Tables.{Tables}
use Rattle.execution.specs.Core.{Opening, Core}
use Rattle.execution.specs.Core.Opening.{none, some}

-- the struct, and the bytes of the live and the loading store
pub record Stored : Type 0 where
  pub tables : Tables
  pub live : List ℕ
  pub loading : List ℕ

abbrev pub stored_as : Tables → List ℕ → List ℕ → Stored
stored_as tables live loading = record { tables = tables; live = live; loading = loading }

-- ---- from the bytes

-- the records in the used bytes of the loading store
abbrev pub kept_in : Load → List ℕ → Kept
kept_in load bytes = record { records = recs (take load.used bytes); over = load.over }

abbrev pub opening_in : Bool → OpenLoad → List ℕ → Opening
opening_in true l bytes = some (record { network = l.network; version = l.version; kept = kept_in l.kept bytes; any = l.any })
opening_in false l bytes = none

unfoldable pub core_of : Stored → Core
core_of s =
    record {
      records = recs (take s.tables.live.used s.live);
      versions = s.tables.versions;
      load = opening_in s.tables.load.opened s.tables.load s.loading;
    }

-- ---- to every byte

-- how many bytes records take, and how many they are
abbrev pub extent_of : List (List ℕ) → Extent
extent_of rs = record { used = length (flatten rs); records = length rs }

abbrev pub load_of : Kept → Load
load_of k = record { used = length (flatten k.records); records = length k.records; over = k.over }

-- with no load open every field is 0
abbrev pub no_load : OpenLoad
no_load = record { opened = false; network = 0; version = zeros 10; kept = record { used = 0; records = 0; over = false }; any = false }

abbrev pub open_load_of : Opening → OpenLoad
open_load_of none = no_load
open_load_of (some l) = record { opened = true; network = l.network; version = l.version; kept = load_of l.kept; any = l.any }

-- while no load is open every byte of the loading store is 0
abbrev pub loading_bytes : Opening → List ℕ
loading_bytes none = zeros 32768
loading_bytes (some l) = store_of 32768 l.kept.records

unfoldable pub stored_of : Core → Stored
stored_of c =
    record {
      tables = record { versions = c.versions; live = extent_of c.records; load = open_load_of c.load };
      live = store_of 32768 c.records;
      loading = loading_bytes c.load;
    }

-- ---- the rules of refusal 3, one for each clause

-- whole records of kind 1 to 3, network 01 to 99 and a good index; their counts and limits; the rest zero
abbrev pub live_sound : Stored → Bool
live_sound s = sound_store 0 s.tables.live.used s.tables.live.records s.live

-- every version is bytes 20h to 7Eh
abbrev pub versions_sound : Stored → Bool
versions_sound s = all_text s.tables.versions

-- only a TLR answered 000 can have brought a record into the load or marked it over
abbrev pub answered_sound : OpenLoad → Bool
answered_sound l = l.any || (not l.kept.over && eqb l.kept.records 0)

-- an open load has a network 00 to 99 and a version, and its store the records that it takes
unfoldable pub open_sound : OpenLoad → List ℕ → Bool
open_sound l bytes =
    ltb l.network 100
    && (all_text l.version
    && (sound_store l.network l.kept.used l.kept.records bytes
    && answered_sound l))

-- with none open every field is 0, and so is every byte of the loading store
unfoldable pub closed_sound : OpenLoad → List ℕ → Bool
closed_sound l bytes =
    eqb l.network 0
    && (all_zero l.version
    && (eqb l.kept.used 0
    && (eqb l.kept.records 0
    && (not l.kept.over
    && (not l.any
    && all_zero bytes)))))

abbrev pub load_sound : Stored → Bool
load_sound s = cond s.tables.load.opened (open_sound s.tables.load s.loading) (closed_sound s.tables.load s.loading)

-- SOUND TABLES
unfoldable pub sound_tables : Stored → Bool
sound_tables s = versions_sound s && (live_sound s && load_sound s)
