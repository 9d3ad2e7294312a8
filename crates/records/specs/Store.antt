-- A store: records end to end, and zeros after them (scope paper, section Commands, and refusal 3).
use Rattle.std.specs.Prelude.{ℕ, ◌-◌, Bool, true, ◌&&◌, length, take, drop, replicate, leb, eqb}
use mathlib.Core.List.{List, [], ◌∷◌, ◌++◌, flatten}
use Rattle.answer.specs.Pieces.{whole, every}
use Rattle.records.specs.Record.{record_in, recs, takes}

-- n zero bytes
abbrev pub zeros : ℕ → List ℕ
zeros n = replicate n 0

-- THE STORE of `size` bytes that holds these records
unfoldable pub store_of : ℕ → List (List ℕ) → List ℕ
store_of size rs = flatten rs ++ zeros (size - length (flatten rs))

-- at most `size` bytes and 512 records
unfoldable pub fits : ℕ → List (List ℕ) → Bool
fits size rs = leb (length (flatten rs)) size && leb (length rs) 512

-- every byte is zero
unfoldable pub all_zero : List ℕ → Bool
all_zero [] = true
all_zero (x ∷ xs) = eqb x 0 && all_zero xs

-- A SOUND STORE, by its used bytes and the number of its records: the used part is within it and is whole records, as many as told and 512 at
-- most, each of which a load for the network takes (for 00: any of kind 1 to 3 and network 01 to 99); the rest is zero
unfoldable pub sound_store : ℕ → ℕ → ℕ → List ℕ → Bool
sound_store network used records bytes =
    leb used (length bytes)
    && (whole record_in (take used bytes)
    && (eqb (length (recs (take used bytes))) records
    && (leb records 512
    && (every (takes network) (recs (take used bytes))
    && all_zero (drop used bytes)))))
