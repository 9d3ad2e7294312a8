-- The terms of the theorem that the long division divides.
use Rattle.std.specs.Prelude.{Bool, true, false, List, [], ◌∷◌, ℕ, zero, suc, drop}
use Rattle.crc16.specs.Crc.{◌⊕◌, zeros, generator}

-- the generator times q: for each coefficient of q that is 1 the generator, at that coefficient's place
unfoldable pub product : List Bool → List Bool
product [] = zeros 16
product (false ∷ q) = false ∷ product q
product (true ∷ q) = generator ⊕ (false ∷ product q)

-- the coefficients of the quotient: the leading coefficient at each of n steps
unfoldable pub quotient : ℕ → List Bool → List Bool
quotient zero p = []
quotient (suc n) [] = []
quotient (suc n) (false ∷ p) = false ∷ quotient n p
quotient (suc n) (true ∷ p) = true ∷ quotient n (drop 1 ((true ∷ p) ⊕ generator))
