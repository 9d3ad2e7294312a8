-- The terms of the theorems on loads, and small cases of them.
use Rattle.std.specs.Prelude.{◌≡◌, Bool, true, false, not, ◌&&◌, ℕ, length, take, Option, unwrap_or}
use mathlib.Core.List.{List, [], ◌∷◌, flatten}
use Rattle.records.specs.Record.{recs}
use Rattle.records.specs.Store.{store_of, fits}
use Rattle.tables.specs.declared.Extent.{Extent}
use Rattle.tables.specs.declared.Load.{Load}
use Rattle.tables.specs.Loading.{taken, Kept, keep_all, Stocked}
use Rattle.records.specs.Claims.{small, a, b}
use Rattle.tables.specs.Closing.{new_set}

-- A STORE THAT HOLDS what is kept: every byte of it, and its numbers; it fits
pub record Holds (size : ℕ) (k : Kept) (s : Stocked) : Type 0 where
  pub bytes_are : s.bytes ≡ store_of size k.records
  pub used_is : s.load.used ≡ length (flatten k.records)
  pub records_are : s.load.records ≡ length k.records
  pub over_is : s.load.over ≡ k.over
  pub fit : fits size k.records ≡ true

-- the new set of a load, from the records in the used bytes of both stores
abbrev pub new_in : ℕ → Extent → List ℕ → Load → List ℕ → List (List ℕ)
new_in network extent live load loading = new_set network (recs (take extent.used live)) (recs (take load.used loading))

-- the load is not over, and that set is within the limits
abbrev pub new_fits : ℕ → Extent → List ℕ → Load → List ℕ → Bool
new_fits network extent live load loading = not load.over && fits (length live) (new_in network extent live load loading)

-- the live store's extent after a load: what is told, or, where none is, that of before
abbrev pub extent_after : Extent → Option Extent → Extent
extent_after extent r = unwrap_or r extent

-- ---- small cases

-- beside them 3 of network 01, and one of kind 4
abbrev pub c : List ℕ
c = small 0x33 0x31 0x43

abbrev pub d : List ℕ
d = small 0x34 0x31 0x44

pub record LoadSamples : Type 0 where
  -- a load for 01 takes the records of 01 of kind 1 to 3; the third does not fit into 16 bytes, and marks it as over
  pub own_taken : taken 1 (a ∷ b ∷ c ∷ d ∷ []) ≡ a ∷ c ∷ []
  pub third_over : keep_all 16 (record { records = []; over = false }) (a ∷ c ∷ a ∷ []) ≡ record { records = a ∷ c ∷ []; over = true }
  -- closing a load for 01: the record of 02 stays and comes first
  pub new_set_lem : new_set 1 (a ∷ b ∷ []) (c ∷ []) ≡ b ∷ c ∷ []
