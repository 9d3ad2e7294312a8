-- Blocks, reading them and filling them (scope paper, section Blocks and parameters).
use Rattle.std.specs.Prelude.{ℕ, ◌+◌, ◌/◌, ◌%◌, Bool, true, ◌&&◌, cond, List, [], ◌∷◌, ◌++◌, map, length, get_or, drop, leb, ltb}
use Rattle.answer.specs.Digits.{is_digit, three_at}
use Rattle.answer.specs.Pieces.{pieces}
use Rattle.parameters.specs.Parameters.{parameter_in, parameters}

-- xs starts with a block's length: three digits, 001 to 999
abbrev pub is_length : List ℕ → Bool
is_length xs = is_digit (get_or xs 0 0) && (is_digit (get_or xs 1 0) && (is_digit (get_or xs 2 0) && leb 1 (three_at xs)))

-- a block is its length and that many bytes: the size of the one that xs starts with, its three digits included; 0 where the length is wrong
-- or the block would go past the end of xs
unfoldable pub block_in : List ℕ → ℕ
block_in xs = cond (leb 3 (length xs) && (is_length xs && leb (3 + three_at xs) (length xs))) (3 + three_at xs) 0

-- what the blocks hold
abbrev pub blocks_of : List ℕ → List (List ℕ)
blocks_of body = map (drop 3) (pieces block_in body)

-- ---- writing

-- a number below 1,000 as three digits
abbrev pub three_of : ℕ → List ℕ
three_of n = (0x30 + n / 100) ∷ (0x30 + n / 10 % 10) ∷ (0x30 + n % 10) ∷ []

-- the block that holds s
abbrev pub block_of : List ℕ → List ℕ
block_of s = three_of (length s) ++ s

-- a parameter goes into the present block if the block then has at most 999 bytes: how many bytes the present block, which has n, has
-- when the next one is opened
unfoldable pub filled : ℕ → List (List ℕ) → ℕ
filled n [] = n
filled n (p ∷ ps) = cond (leb (n + length p) 999) (filled (n + length p) ps) n

-- how many bytes of a list go into its first block
unfoldable pub first_in : List ℕ → ℕ
first_in list = filled 0 (parameters list)

-- what goes into each block
abbrev pub fill : List ℕ → List (List ℕ)
fill list = pieces first_in list

-- BLOCKS THAT WERE FILLED THAT WAY: none has room for the first parameter of the next
unfoldable pub greedy : List (List ℕ) → Bool
greedy [] = true
greedy (b ∷ []) = true
greedy (b ∷ c ∷ bs) = ltb 999 (length b + parameter_in c) && greedy (c ∷ bs)
