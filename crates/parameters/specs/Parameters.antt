-- Parameters and parameter lists (scope paper, section Blocks and parameters).
use Rattle.std.specs.Prelude.{ℕ, ◌+◌, ◌*◌, Bool, ◌&&◌, cond, List, length, get_or, drop, leb}
use Rattle.answer.specs.Pieces.{pieces, whole}

-- the two bytes at a place as a number, the high one first
abbrev pub two_at : List ℕ → ℕ → ℕ
two_at xs at = get_or xs at 0 * 256 + get_or xs (at + 1) 0

-- a parameter is its number, its data's length and the data: the size of the one that xs starts with, 0 where its header or its
-- data would go past the end of xs
unfoldable pub parameter_in : List ℕ → ℕ
parameter_in xs = cond (leb 4 (length xs) && leb (4 + two_at xs 2) (length xs)) (4 + two_at xs 2) 0

-- the parameters of a list, each with its header
abbrev pub parameters : List ℕ → List (List ℕ)
parameters list = pieces parameter_in list

-- a list is parameters and nothing else; refusal 21 where this is false
abbrev pub whole_list : List ℕ → Bool
whole_list list = whole parameter_in list

abbrev pub number_of : List ℕ → ℕ
number_of p = two_at p 0

abbrev pub data_of : List ℕ → List ℕ
data_of p = drop 4 p
