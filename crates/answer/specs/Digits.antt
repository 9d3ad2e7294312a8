-- Digits and texts, as messages and table records write them.
use Rattle.std.specs.Prelude.{ℕ, ◌+◌, ◌*◌, ◌%◌, Bool, ◌&&◌, cond, List, get_or, leb, Option, Some, None}

-- the digits 0 to 9
abbrev pub is_digit : ℕ → Bool
is_digit b = leb 0x30 b && leb b 0x39

-- the bytes 20h to 7Eh
abbrev pub is_text : ℕ → Bool
is_text b = leb 0x20 b && leb b 0x7e

-- what a digit stands for: 30h to 39h are 0 to 9, their low four bits
abbrev pub digit_of : ℕ → ℕ
digit_of b = b % 16

-- the number that two digits at a place write
abbrev pub two_digits_at : List ℕ → ℕ → ℕ
two_digits_at xs at = digit_of (get_or xs at 0) * 10 + digit_of (get_or xs (at + 1) 0)

-- the number that three digits at the start of xs write
abbrev pub three_at : List ℕ → ℕ
three_at xs = digit_of (get_or xs 0 0) * 100 + digit_of (get_or xs 1 0) * 10 + digit_of (get_or xs 2 0)

-- the same as the code tells it: none, where they are not digits all
unfoldable pub two_in : List ℕ → Option ℕ
two_in xs = cond (is_digit (get_or xs 0 0) && is_digit (get_or xs 1 0)) (Some (two_digits_at xs 0)) None

unfoldable pub three_in : List ℕ → Option ℕ
three_in xs = cond (is_digit (get_or xs 0 0) && (is_digit (get_or xs 1 0) && is_digit (get_or xs 2 0))) (Some (three_at xs)) None
