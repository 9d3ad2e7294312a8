-- Closing a load: the new set of live records, and the versions after it (scope paper, section Commands, TLE).
use Rattle.std.specs.Prelude.{ℕ, ◌+◌, ◌-◌, ◌*◌, ◌≡◌, Bool, not, ◌&&◌, cond, length, take, drop, replicate, leb, eqb, Option, Some, None}
use mathlib.Core.List.{List, [], ◌∷◌, ◌++◌, flatten}
use Rattle.answer.specs.Laid.{pasted}
use Rattle.records.specs.Record.{recs, is_named}
use Rattle.records.specs.Store.{zeros}
use Rattle.tables.specs.declared.Extent.{Extent}
use Rattle.tables.specs.declared.Load.{Load}

-- ---- the new set

-- the records of networks that are not named, in order
unfoldable pub not_named : ℕ → List (List ℕ) → List (List ℕ)
not_named network [] = []
not_named network (r ∷ rs) = cond (is_named network r) (not_named network rs) (r ∷ not_named network rs)

-- THE NEW SET: what stays of the live records, with the load's records after it
unfoldable pub new_set : ℕ → List (List ℕ) → List (List ℕ) → List (List ℕ)
new_set network live load = not_named network live ++ load

-- ---- said of bytes, for any stores and any numbers

-- the live records that stay
abbrev pub staying : ℕ → Extent → List ℕ → List (List ℕ)
staying network extent live = not_named network (recs (take extent.used live))

-- the bytes of the new set
unfoldable pub new_bytes : ℕ → Extent → List ℕ → Load → List ℕ → List ℕ
new_bytes network extent live load loading = flatten (staying network extent live) ++ take load.used loading

unfoldable pub new_records : ℕ → Extent → List ℕ → Load → ℕ
new_records network extent live load = length (staying network extent live) + load.records

-- the new set passes no limit: the live store's size, and 512 records. A load that is over had records that it did not keep, which pass one
unfoldable pub closes : ℕ → Extent → List ℕ → Load → List ℕ → Bool
closes network extent live load loading =
    not load.over
    && (leb (length (new_bytes network extent live load loading)) (length live) && leb (new_records network extent live load) 512)

-- the live store's extent with the new set
abbrev pub new_extent : ℕ → Extent → List ℕ → Load → List ℕ → Extent
new_extent network extent live load loading = record { used = length (new_bytes network extent live load loading); records = new_records network extent live load }

-- THE PROMISE of closing a load: the new set becomes the live one, and its extent is told, or, where it passes a limit, the live store stays,
-- and none is told; the loading store is all zero either way
pub record Closes (network : ℕ) (extent : Extent) (load : Load) (live loading : List ℕ) (r : Option Extent) (live' loading' : List ℕ) : Type 0 where
  pub answer : r ≡ cond (closes network extent live load loading) (Some (new_extent network extent live load loading)) None
  pub store : live' ≡ cond (closes network extent live load loading) (new_bytes network extent live load loading ++ zeros (length live - length (new_bytes network extent live load loading))) live
  pub zeroed : loading' ≡ zeros (length loading)

-- ---- the versions, ten bytes for each of the networks 00 to 99

-- the version that is held for a network
abbrev pub version_of : ℕ → List ℕ → List ℕ
version_of n versions = take 10 (drop (n * 10) versions)

-- ten "0" bytes
abbrev pub no_version : List ℕ
no_version = replicate 10 0x30

-- the version that a closed load leaves: its own, or ten "0" bytes where no TLR was answered 000 in it
abbrev pub new_version : Bool → List ℕ → List ℕ
new_version any version = cond any version no_version

-- THE VERSIONS AFTER a load: one for 00 renames all 100 networks; one for another network renames that network, and clears the name of 00 to ten "0" bytes.
-- There is no network above 99
unfoldable pub new_versions : ℕ → List ℕ → List ℕ → List ℕ
new_versions network version versions =
    cond (eqb network 0) (flatten (replicate 100 version))
    (cond (leb network 99) (pasted (pasted versions (network * 10) version) 0 no_version)
    versions)
