-- Bytes cut into pieces that stand one after another, each of which tells its own size: blocks, parameters, tags, objects, records.
-- `size xs` is the size of the piece that xs starts with, and 0 where it starts with none.
use Rattle.std.specs.Prelude.{ℕ, zero, suc, pred, Bool, true, false, ◌&&◌, List, [], ◌∷◌, take, Option, Some, None}

-- a size as the code tells it: none, where it is 0
abbrev pub found : ℕ → Option ℕ
found zero = None
found (suc n) = Some (suc n)

-- a piece of n bytes at the start of xs, and then more pieces; none, where n is 0
abbrev pub piece_then : ℕ → List ℕ → List (List ℕ) → List (List ℕ)
piece_then zero xs more = []
piece_then (suc n) xs more = take (suc n) xs ∷ more

-- the pieces past the first k bytes, up to the first place where none stands
unfoldable pub pieces_from : (List ℕ → ℕ) → ℕ → List ℕ → List (List ℕ)
pieces_from size zero [] = []
pieces_from size (suc k) [] = []
pieces_from size zero (x ∷ xs) = piece_then (size (x ∷ xs)) (x ∷ xs) (pieces_from size (pred (size (x ∷ xs))) xs)
pieces_from size (suc k) (x ∷ xs) = pieces_from size k xs

-- THE PIECES of a list
abbrev pub pieces : (List ℕ → ℕ) → List ℕ → List (List ℕ)
pieces size xs = pieces_from size 0 xs

-- what is left where a piece of n bytes stands at the start of xs: all of xs, where n is 0
abbrev pub rest_then : ℕ → List ℕ → List ℕ → List ℕ
rest_then zero xs more = xs
rest_then (suc n) xs more = more

-- what is left past the first k bytes, from the first place where no piece stands
unfoldable pub rest_from : (List ℕ → ℕ) → ℕ → List ℕ → List ℕ
rest_from size zero [] = []
rest_from size (suc k) [] = []
rest_from size zero (x ∷ xs) = rest_then (size (x ∷ xs)) (x ∷ xs) (rest_from size (pred (size (x ∷ xs))) xs)
rest_from size (suc k) (x ∷ xs) = rest_from size k xs

-- WHAT IS LEFT of a list after its pieces
abbrev pub rest : (List ℕ → ℕ) → List ℕ → List ℕ
rest size xs = rest_from size 0 xs

abbrev pub is_none : List ℕ → Bool
is_none [] = true
is_none (x ∷ xs) = false

-- A WHOLE LIST is pieces, and nothing is left
abbrev pub whole : (List ℕ → ℕ) → List ℕ → Bool
whole size xs = is_none (rest size xs)

-- whether each of the pieces passes a test
unfoldable pub every : (List ℕ → Bool) → List (List ℕ) → Bool
every test [] = true
every test (p ∷ ps) = test p && every test ps
