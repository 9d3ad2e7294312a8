-- A tag (scope paper, section Data objects). This is the one place that says what tags there are.
use Rattle.std.specs.Prelude.{ℕ, ◌%◌, Bool, not, ◌&&◌, ◌||◌, cond, List, [], ◌∷◌, length, ltb, eqb}

-- first bytes that no tag has
abbrev pub bad_first : ℕ → Bool
bad_first a = eqb a 0x00 || eqb a 0xff

-- a first byte whose low five bits are all set calls for a second
abbrev pub calls_for_more : ℕ → Bool
calls_for_more a = eqb (a % 32) 31

-- the size of a tag of two bytes, by what stands after its first: a second byte is below 80h
unfoldable pub size_of_two : List ℕ → ℕ
size_of_two [] = 0
size_of_two (b ∷ xs) = cond (ltb b 0x80) 2 0

-- THE SIZE OF THE TAG that xs starts with; 0 where it starts with none
unfoldable pub tag_size : List ℕ → ℕ
tag_size [] = 0
tag_size (a ∷ xs) = cond (bad_first a) 0 (cond (calls_for_more a) (size_of_two xs) 1)

-- these bytes are exactly one tag
abbrev pub is_tag : List ℕ → Bool
is_tag tag = not (eqb (length tag) 0) && eqb (tag_size tag) (length tag)
