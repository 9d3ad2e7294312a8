-- What the private functions come to. No public promise cites it, and no reader has to believe it.
use Rattle.std.specs.Prelude.{ℕ, ◌+◌, ◌-◌, ◌≡◌, Bool, not, ◌&&◌, length, take, drop, leb}
use mathlib.Core.List.{List, ◌++◌, flatten}
use Rattle.records.specs.Record.{recs}
use Rattle.records.specs.Store.{zeros}
use Rattle.tables.specs.declared.Extent.{Extent}
use Rattle.tables.specs.declared.Load.{Load}
use Rattle.tables.specs.Loading.{taken, Stocked, stock_one, stock_all}
use Rattle.tables.specs.Closing.{not_named}

-- one record was added to a load's store, or marked it as over
pub record Stocks (load : Load) (rec bytes : List ℕ) (r : Load) (bytes' : List ℕ) : Type 0 where
  pub load' : r ≡ (stock_one (record { load = load; bytes = bytes }) rec).load
  pub store' : bytes' ≡ (stock_one (record { load = load; bytes = bytes }) rec).bytes

-- those of the records of some bytes that the load takes were added
abbrev pub stocked_all : ℕ → Stocked → List ℕ → Stocked
stocked_all network s xs = stock_all s (taken network (recs xs))

pub record StocksAll (network : ℕ) (load : Load) (xs bytes : List ℕ) (r : Load) (bytes' : List ℕ) : Type 0 where
  pub load' : r ≡ (stocked_all network (record { load = load; bytes = bytes }) xs).load
  pub store' : bytes' ≡ (stocked_all network (record { load = load; bytes = bytes }) xs).bytes

-- the bytes of the records that stay
unfoldable pub staying_bytes : ℕ → List ℕ → List ℕ
staying_bytes network bytes = flatten (not_named network (recs bytes))

-- the records of some bytes that stay: how many bytes and how many they are
pub record Stays (network : ℕ) (bytes : List ℕ) (r : Extent) : Type 0 where
  pub used : r.used ≡ length (staying_bytes network bytes)
  pub records : r.records ≡ length (not_named network (recs bytes))

-- the len bytes at `from` moved to `to`
abbrev pub moved : List ℕ → ℕ → ℕ → ℕ → List ℕ
moved s to from len = take to s ++ take len (drop from s) ++ drop (to + len) s

-- the records of the first `used` bytes that stay stand at the start, up to r
pub record Compacts (network used : ℕ) (live : List ℕ) (r : ℕ) (live' : List ℕ) : Type 0 where
  pub end : r ≡ length (staying_bytes network (take used live))
  pub front : take r live' ≡ staying_bytes network (take used live)
  pub long : length live' ≡ length live

-- what stays, and then some bytes, is the live store, with zeros after them
pub record Replaces (network used : ℕ) (bytes live : List ℕ) (r : ℕ) (live' : List ℕ) : Type 0 where
  pub end : r ≡ length (staying_bytes network (take used live)) + length bytes
  pub store : live' ≡ (staying_bytes network (take used live) ++ bytes) ++ zeros (length live - r)

-- what stays, with n bytes and the load's records more, passes no limit
unfoldable pub limits_kept : ℕ → Extent → ℕ → Load → Bool
limits_kept size stays n load = not load.over && (leb (stays.used + n) size && leb (stays.records + load.records) 512)
