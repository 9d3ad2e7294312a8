-- How flags and the table calls cross the boundary: a flag is a byte, 0 or 1, and one that is handed in is set unless it is 0. Each promise is that of
-- the call behind it.
use Rattle.std.specs.Prelude.{ℕ, ◌-◌, ◌≡◌, not, ◌&&◌, cond, List, ◌++◌, length, eqb}
use Rattle.records.specs.Store.{zeros}
use Rattle.tables.specs.declared.Extent.{Extent}
use Rattle.tables.specs.declared.Load.{Load}
use Rattle.tables.specs.Loading.{stocked}
use Rattle.tables.specs.Closing.{closes, new_bytes, new_records, new_versions}
use Rattle.image.specs.Image.{flag_of}
use Rattle.abecs.specs.declared.numbered.LoadOf.{LoadOf}
use Rattle.abecs.specs.declared.numbered.ClosedOf.{ClosedOf}

-- the load that two numbers and a flag tell
abbrev pub load_of : ℕ → ℕ → ℕ → Load
load_of used records over = record { used = used; records = records; over = not (eqb over 0) }

abbrev pub extent_of : ℕ → ℕ → Extent
extent_of used records = record { used = used; records = records }

-- a load with its flag as a byte
abbrev pub shown : Load → LoadOf
shown l = record { used = l.used; records = l.records; over = flag_of l.over }

abbrev pub IsLoadOf : Load → LoadOf → Type 0
IsLoadOf load l = l ≡ shown load

-- the promise of `tables::add_block`
pub record AddsOf (network : ℕ) (load : Load) (block bytes : List ℕ) (r : LoadOf) (bytes' : List ℕ) : Type 0 where
  pub answer : r ≡ shown (stocked network (record { load = load; bytes = bytes }) block).load
  pub store : bytes' ≡ (stocked network (record { load = load; bytes = bytes }) block).bytes

-- the promise of `tables::close_load`
pub record ClosesOf (network : ℕ) (extent : Extent) (load : Load) (live loading : List ℕ) (r : ClosedOf) (live' loading' : List ℕ) : Type 0 where
  pub done : r.done ≡ flag_of (closes network extent live load loading)
  pub used : r.used ≡ cond (closes network extent live load loading) (length (new_bytes network extent live load loading)) extent.used
  pub records : r.records ≡ cond (closes network extent live load loading) (new_records network extent live load) extent.records
  pub store : live' ≡ cond (closes network extent live load loading) (new_bytes network extent live load loading ++ zeros (length live - length (new_bytes network extent live load loading))) live
  pub zeroed : loading' ≡ zeros (length loading)

-- the promise of `tables::versions_after`, brought up to date where they stand: 1,000 bytes of versions and ten of the new one; else nothing changes
abbrev pub versions_of : ℕ → List ℕ → List ℕ → List ℕ
versions_of network version versions = cond (eqb (length versions) 1000 && eqb (length version) 10) (new_versions network version versions) versions
