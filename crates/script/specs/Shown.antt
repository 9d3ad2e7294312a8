-- How a log shows bytes.
use Rattle.std.specs.Prelude.{ℕ, ◌/◌, ◌%◌, true, List, [], ◌∷◌, codes}
use Rattle.std.specs.List.{flat_map}
use Rattle.std.specs.Fmt.{digit_glyph}

-- the two upper-case hexadecimal digits of a byte
abbrev pub two_digits : ℕ → List ℕ
two_digits b = digit_glyph true (b / 16) ∷ digit_glyph true (b % 16) ∷ []

-- two digits for each byte, and `-` for none
abbrev pub shown : List ℕ → List ℕ
shown [] = codes "-"
shown (b ∷ more) = flat_map two_digits (b ∷ more)
