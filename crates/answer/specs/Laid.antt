-- Bytes put at a place of a buffer: what the writing functions of the codecs tell each other.
use Rattle.std.specs.Prelude.{ℕ, ◌+◌, ◌≤◌, ◌≡◌, Bool, cond, List, ◌++◌, length, take, drop, leb}

-- l with s in the place of what stands at `at`
abbrev pub pasted : List ℕ → ℕ → List ℕ → List ℕ
pasted l at s = take at l ++ s ++ drop (at + length s) l

-- s put at `at`, and the place after it
pub record Puts (out : List ℕ) (at : ℕ) (s : List ℕ) (r : ℕ) (out' : List ℕ) : Type 0 where
  pub bytes : out' ≡ pasted out at s
  pub next : r ≡ at + length s

-- whether n bytes at `at` end within the buffer
abbrev pub fits : List ℕ → ℕ → ℕ → Bool
fits out at n = leb (at + n) (length out)

-- s put at `at` where it fits, and the place after it; nothing, and `at` itself, where it does not
pub record PutIf (out : List ℕ) (at : ℕ) (s : List ℕ) (r : ℕ) (out' : List ℕ) : Type 0 where
  pub bytes : out' ≡ cond (fits out at (length s)) (pasted out at s) out
  pub next : r ≡ cond (fits out at (length s)) (at + length s) at

-- the place in a list where a piece starts: n is its size, 0 where none stands there
pub record PieceAt (size : List ℕ → ℕ) (xs : List ℕ) (at n : ℕ) : Type 0 where
  pub is : n ≡ size (drop at xs)
  pub within : at + n ≤ length xs
