-- A table record, and the records that some bytes are (scope paper, section Commands).
use Rattle.std.specs.Prelude.{ℕ, Bool, not, ◌&&◌, ◌||◌, cond, List, length, get_or, drop, leb, eqb, Option, Some, None}
use Rattle.answer.specs.Digits.{is_digit, is_text, two_digits_at, three_at}
use Rattle.answer.specs.Pieces.{pieces, whole}
use Rattle.records.specs.declared.record.Record.{Record}

-- a record says its own length in its first three digits, which count too
abbrev pub length_in : List ℕ → ℕ
length_in xs = three_at xs

abbrev pub kind_of : List ℕ → ℕ
kind_of r = get_or r 3 0

abbrev pub network_of : List ℕ → ℕ
network_of r = two_digits_at r 4

-- three digits, and a length from 008 to 997
abbrev pub length_good : List ℕ → Bool
length_good xs = is_digit (get_or xs 0 0) && (is_digit (get_or xs 1 0) && (is_digit (get_or xs 2 0) && (leb 8 (length_in xs) && leb (length_in xs) 997)))

-- two network digits
abbrev pub network_good : List ℕ → Bool
network_good xs = is_digit (get_or xs 4 0) && is_digit (get_or xs 5 0)

-- two index bytes
abbrev pub index_good : List ℕ → Bool
index_good xs = is_text (get_or xs 6 0) && is_text (get_or xs 7 0)

-- xs starts with a whole record; its kind and the bytes after its index are free
unfoldable pub starts_record : List ℕ → Bool
starts_record xs = leb 8 (length xs) && (length_good xs && (leb (length_in xs) (length xs) && (network_good xs && index_good xs)))

-- THE SIZE OF THE RECORD that xs starts with; 0 where it starts with none
unfoldable pub record_in : List ℕ → ℕ
record_in xs = cond (starts_record xs) (length_in xs) 0

-- what a record's own bytes tell of it
abbrev pub record_as : List ℕ → Record
record_as r = record { size = length_in r; kind = kind_of r; network = network_of r }

-- THE RECORD that xs starts with
unfoldable pub found_in : List ℕ → Option Record
found_in xs = cond (starts_record xs) (Some (record_as xs)) None

-- the records of any bytes: those that stand one after another from the start, up to the first place where none stands
abbrev pub recs : List ℕ → List (List ℕ)
recs xs = pieces record_in xs

-- ---- the records of a TLR block

-- the count: two digits, not 00
abbrev pub count_good : List ℕ → Bool
count_good block = leb 2 (length block) && (is_digit (get_or block 0 0) && (is_digit (get_or block 1 0) && leb 1 (two_digits_at block 0)))

-- the records of a block, which follow the count
abbrev pub records_of : List ℕ → List (List ℕ)
records_of block = recs (drop 2 block)

-- A GOOD BLOCK: a good count, and as many records that fill the block exactly
unfoldable pub good_block : List ℕ → Bool
good_block block = count_good block && (whole record_in (drop 2 block) && eqb (length (records_of block)) (two_digits_at block 0))

-- ---- which records a load takes, and which it names

-- kinds 1 to 3
abbrev pub is_kind : ℕ → Bool
is_kind b = leb 0x31 b && leb b 0x33

-- a load for a network takes a record of kind 1 to 3, of a network that is not 00 and, unless the load is for 00, is the load's own;
-- any other record is skipped
abbrev pub takes_as : ℕ → ℕ → ℕ → Bool
takes_as network kind own = is_kind kind && (not (eqb own 0) && (eqb network 0 || eqb own network))

-- the same of a record's bytes
unfoldable pub takes : ℕ → List ℕ → Bool
takes network r = takes_as network (kind_of r) (network_of r)

-- a load for 00 names every network, any other its own
abbrev pub names_as : ℕ → ℕ → Bool
names_as network own = eqb network 0 || eqb own network

-- the network of a record is named
abbrev pub is_named : ℕ → List ℕ → Bool
is_named network r = names_as network (network_of r)
