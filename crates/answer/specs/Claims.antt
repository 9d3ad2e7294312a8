-- The terms of the theorems on pieces.
use Rattle.std.specs.Prelude.{◌≡◌, List, [], ◌∷◌, ℕ, length}

-- each of ps is one piece
abbrev pub AllPieces : (List ℕ → ℕ) → List (List ℕ) → Type 0
AllPieces size [] = Unit {0}
AllPieces size (p ∷ ps) = (size p ≡ length p) × (length p ≡ 0 → ⊥) × AllPieces size ps
