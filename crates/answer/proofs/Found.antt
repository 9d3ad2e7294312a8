-- A size as the code tells it, and the first piece and the rest by it.
use mathlib.Core.Path.{◌≡◌, refl}
use mathlib.Core.List.{List, [], ◌∷◌}
use Prim.Native.Nat.{ℕ, zero, suc, ◌≤◌}
use native.Mathlib.Omega.{arith}
use lib.ListN.{length, take, drop}
use Rattle.std.specs.Prelude.{Option, Some, None}
use Rattle.answer.specs.Pieces.{found, pieces, rest}
use Rattle.answer.proofs.Pieces.{pieces_cons, pieces_stop, rest_cons, rest_same}

pub found_is : (m n : ℕ) → (let o : Option ℕ = Some n in o) ≡ found m → m ≡ n
found_is zero n e = absurd cc
found_is (suc m) n e = cc

pub found_some : (m n : ℕ) → (let o : Option ℕ = Some n in o) ≡ found m → n ≡ 0 → ⊥
found_some zero n e z = absurd cc
found_some (suc m) n e z = let k : n ≡ suc m = cc in omega arith

pub found_none : (m : ℕ) → (let o : Option ℕ = None in o) ≡ found m → m ≡ 0
found_none zero e = refl
found_none (suc m) e = absurd cc

module _ (size : List ℕ → ℕ) (le : (xs : List ℕ) → size xs ≤ length xs) (xs : List ℕ) where
  pub pieces_found : (n : ℕ) → (let o : Option ℕ = Some n in o) ≡ found (size xs) → pieces size xs ≡ take n xs ∷ pieces size (drop n xs)
  pieces_found n e = pieces_cons size le xs n (found_is (size xs) n e) (found_some (size xs) n e)

  pub pieces_lost : (let o : Option ℕ = None in o) ≡ found (size xs) → pieces size xs ≡ []
  pieces_lost e = pieces_stop size le xs (found_none (size xs) e)

  pub rest_found : (n : ℕ) → (let o : Option ℕ = Some n in o) ≡ found (size xs) → rest size xs ≡ rest size (drop n xs)
  rest_found n e = rest_cons size le xs n (found_is (size xs) n e) (found_some (size xs) n e)

  pub rest_lost : (let o : Option ℕ = None in o) ≡ found (size xs) → rest size xs ≡ xs
  rest_lost e = rest_same size le xs (found_none (size xs) e)
