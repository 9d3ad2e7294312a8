-- What commands read and change, said without arrays: the live tables, the versions, the open load (scope paper, section Commands).
use Rattle.std.specs.Prelude.{ℕ, Bool, List, [], replicate}
use Rattle.tables.specs.Loading.{Kept}

-- the network and version that TLI named, the records kept and whether one was not, and whether a TLR was answered 000
pub record Loading : Type 0 where
  pub network : ℕ
  pub version : List ℕ
  pub kept : Kept
  pub any : Bool

-- the open load, if there is one
pub data Opening : Type 0 where
  none : Opening
  some : Loading → Opening

-- the live records in order; the version store, ten bytes for each of the networks 00 to 99; the open load
pub record Core : Type 0 where
  pub records : List (List ℕ)
  pub versions : List ℕ
  pub load : Opening

abbrev pub with_load : Core → Opening → Core
with_load c o = record { records = c.records; versions = c.versions; load = o }

-- A FRESH DEVICE has no record, no open load, and ten "0" bytes for every version
unfoldable pub fresh_core : Core
fresh_core = record { records = []; versions = replicate 1000 0x30; load = none }
