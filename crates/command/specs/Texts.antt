-- Texts in a payload.
use Rattle.std.specs.Prelude.{ℕ, Bool, true, false, ◌&&◌, List, [], ◌∷◌, eqb}
use Prim.Native.Char.{code}
use Prim.Native.String.{String, [] as noText, ◌∷◌ as ◌then◌}
use Rattle.answer.specs.Digits.{is_text}

-- the bytes of a text of ASCII characters
abbrev pub ascii : String → List ℕ
ascii noText = []
ascii (◌then◌ c s) = code c ∷ ascii s

-- whether the bytes start with these
unfoldable pub starts : List ℕ → List ℕ → Bool
starts [] p = true
starts (x ∷ s) [] = false
starts (x ∷ s) (y ∷ p) = eqb x y && starts s p

-- whether each byte is 20h to 7Eh
unfoldable pub all_text : List ℕ → Bool
all_text [] = true
all_text (x ∷ xs) = is_text x && all_text xs
