-- The tables and versions, from the loads, one after another (scope paper, section Commands). Nothing here knows of a device.
use Rattle.std.specs.Prelude.{ℕ, Bool, false, cond, List, [], ◌∷◌, replicate}
use Rattle.records.specs.Store.{fits}
use Rattle.tables.specs.Closing.{new_set, new_version, new_versions}
use Rattle.history.specs.Loads.{Load, Open}
use Rattle.history.specs.Loads.Open.{no_load, load}

-- the live records in order, and the hundred versions, ten bytes each
pub record Tables : Type 0 where
  pub records : List (List ℕ)
  pub versions : List ℕ

-- no record, and ten "0" bytes for every version
unfoldable pub fresh_tables : Tables
fresh_tables = record { records = []; versions = replicate 1000 0x30 }

-- the new set of a load is within 32,768 bytes and 512 records
unfoldable pub within : Tables → Load → Bool
within t l = fits 32768 (new_set l.network t.records l.records)

-- a load that is closed: its new set and its version; TLE021, and nothing changes, exactly where the new set would pass a limit
unfoldable pub loaded : Tables → Load → Tables
loaded t l =
    cond (within t l)
    (record {
      records = new_set l.network t.records l.records;
      versions = new_versions l.network (new_version l.any l.version) t.versions;
    })
    t

unfoldable pub tables_from : Tables → List Load → Tables
tables_from t [] = t
tables_from t (l ∷ ls) = tables_from (loaded t l) ls

-- THE TABLES that loads give
abbrev pub tables_of : List Load → Tables
tables_of ls = tables_from fresh_tables ls

-- whether the load that is open would close with TLE000
abbrev pub would_close : Tables → Open → Bool
would_close t no_load = false
would_close t (load l) = within t l
