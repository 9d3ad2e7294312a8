-- The terms of the theorems on records and stores, and small cases of them.
use Rattle.std.specs.Prelude.{◌≡◌, true, false, ℕ, length, Some, None}
use mathlib.Core.List.{List, [], ◌∷◌, ◌++◌, flatten}
use Rattle.answer.specs.Claims.{AllPieces}
use Rattle.records.specs.Record.{record_in, found_in, takes, good_block}
use Rattle.answer.specs.Pieces.{every}
use Rattle.records.specs.Store.{zeros, store_of, fits, sound_store}

-- each of rs is a record
abbrev pub AllRecords : List (List ℕ) → Type 0
AllRecords rs = AllPieces record_in rs

-- A SOUND STORE of the records rs: every byte of it; used bytes and records are told right; a load for the network takes them all; they fit
pub record SoundAs (network used records : ℕ) (bytes : List ℕ) (rs : List (List ℕ)) : Type 0 where
  pub is : bytes ≡ store_of (length bytes) rs
  pub used_is : used ≡ length (flatten rs)
  pub records_is : records ≡ length rs
  pub taken_all : every (takes network) rs ≡ true
  pub fit : fits (length bytes) rs ≡ true
  pub all : AllRecords rs

-- ---- small cases

-- records of 8 bytes: a kind, a network's last digit and an index byte
abbrev pub small : ℕ → ℕ → ℕ → List ℕ
small kind network index = 0x30 ∷ 0x30 ∷ 0x38 ∷ kind ∷ 0x30 ∷ network ∷ 0x41 ∷ index ∷ []

-- 1 of network 01, and 2 of 02
abbrev pub a : List ℕ
a = small 0x31 0x31 0x41

abbrev pub b : List ℕ
b = small 0x32 0x32 0x42

pub record RecordSamples : Type 0 where
  pub whole_record : record_in (a ++ (0x30 ∷ [])) ≡ 8
  -- 007 is no length, 1Fh no index byte, and nine bytes are not there
  pub too_short : record_in (0x30 ∷ 0x30 ∷ 0x37 ∷ 0x31 ∷ 0x30 ∷ 0x31 ∷ 0x41 ∷ 0x41 ∷ []) ≡ 0
  pub bad_index : record_in (small 0x31 0x31 0x1f) ≡ 0
  pub cut_off : record_in (0x30 ∷ 0x30 ∷ 0x39 ∷ 0x31 ∷ 0x30 ∷ 0x31 ∷ 0x41 ∷ 0x41 ∷ []) ≡ 0
  -- a record of 02 is found with its size, its kind and its network
  pub found_whole : found_in (b ++ (0x30 ∷ [])) ≡ Some (record { size = 8; kind = 0x32; network = 2 })
  pub found_none : found_in (0x30 ∷ []) ≡ None
  -- a good block of two, one that tells three, and one with a byte too many
  pub two_good : good_block (0x30 ∷ 0x32 ∷ (a ++ b)) ≡ true
  pub three_told : good_block (0x30 ∷ 0x33 ∷ (a ++ b)) ≡ false
  pub byte_left : good_block (0x30 ∷ 0x32 ∷ (a ++ (b ++ (0x30 ∷ [])))) ≡ false

pub record StoreSamples : Type 0 where
  -- a store of 24 bytes with two records: for 00 any network's will do
  pub sound_live : sound_store 0 16 2 (a ++ (b ++ zeros 8)) ≡ true
  pub not_own : sound_store 1 16 2 (a ++ (b ++ zeros 8)) ≡ false
  pub rest_dirty : sound_store 0 8 1 (a ++ (b ++ zeros 8)) ≡ false
