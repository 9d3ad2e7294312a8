-- An open load's store, and adding records to it (scope paper, section Commands). The limits are the store's own size and 512 records.
use Rattle.std.specs.Prelude.{ℕ, ◌+◌, ◌≡◌, Bool, true, false, not, ◌&&◌, ◌||◌, cond, List, [], ◌∷◌, ◌++◌, length, leb, ltb}
use Rattle.answer.specs.Laid.{pasted}
use Rattle.records.specs.Record.{takes, records_of, good_block}
use Rattle.records.specs.Store.{fits}
use Rattle.tables.specs.declared.Load.{Load}

-- ---- said of records

-- those of the records that a load for the network takes, in order
unfoldable pub taken : ℕ → List (List ℕ) → List (List ℕ)
taken network [] = []
taken network (r ∷ rs) = cond (takes network r) (r ∷ taken network rs) (taken network rs)

-- the load's own records, and whether it is over
pub record Kept : Type 0 where
  pub records : List (List ℕ)
  pub over : Bool

-- one record more: the first that would take the load's own records past a limit, and all after it, are not kept and mark it as over
unfoldable pub keep_one : ℕ → Kept → List ℕ → Kept
keep_one size k r =
    cond (k.over || not (fits size (k.records ++ (r ∷ []))))
    (record { records = k.records; over = true })
    (record { records = k.records ++ (r ∷ []); over = false })

unfoldable pub keep_all : ℕ → Kept → List (List ℕ) → Kept
keep_all size k [] = k
keep_all size k (r ∷ rs) = keep_all size (keep_one size k r) rs

-- ---- said of bytes, for any store and any numbers

-- a store with its used bytes, its records and whether the load is over
pub record Stocked : Type 0 where
  pub load : Load
  pub bytes : List ℕ

-- there is room behind the used bytes, and a record fewer than 512
unfoldable pub has_room : Load → List ℕ → List ℕ → Bool
has_room load bytes r = leb (load.used + length r) (length bytes) && ltb load.records 512

-- the record is put behind the used bytes; where it has no room, or the load is over already, nothing is put and the load is over
unfoldable pub stock_one : Stocked → List ℕ → Stocked
stock_one s r =
    cond (not s.load.over && has_room s.load s.bytes r)
    (record { load = record { used = s.load.used + length r; records = s.load.records + 1; over = false }; bytes = pasted s.bytes s.load.used r })
    (record { load = record { used = s.load.used; records = s.load.records; over = true }; bytes = s.bytes })

unfoldable pub stock_all : Stocked → List (List ℕ) → Stocked
stock_all s [] = s
stock_all s (r ∷ rs) = stock_all (stock_one s r) rs

-- what a load takes of a block: nothing of a bad one
unfoldable pub taken_of : ℕ → List ℕ → List (List ℕ)
taken_of network block = cond (good_block block) (taken network (records_of block)) []

-- ADDING A BLOCK: what the load takes of it, in order
abbrev pub stocked : ℕ → Stocked → List ℕ → Stocked
stocked network s block = stock_all s (taken_of network block)

-- THE PROMISE of adding a block
pub record Adds (network : ℕ) (load : Load) (block bytes : List ℕ) (r : Load) (bytes' : List ℕ) : Type 0 where
  pub load' : r ≡ (stocked network (record { load = load; bytes = bytes }) block).load
  pub store' : bytes' ≡ (stocked network (record { load = load; bytes = bytes }) block).bytes
