-- Versions of another size, or a version of one, change nothing.
use mathlib.Core.Path.{◌≡◌, refl}
use mathlib.Core.List.{List}
use Prim.Native.Nat.{ℕ}
use lib.ListN.{length}
use lib.Dec.{eqb}
use borrow.Author.Tests.{ne_eqb}
use Rattle.answer.proofs.Parts.{and_false}
use Rattle.abecs.specs.Flags.{versions_of}

pub version_short : (network : ℕ) (version versions : List ℕ) → (length version ≡ 10 → ⊥) → versions ≡ versions_of network version versions
version_short network version versions h = rw (ne_eqb (length version) 10 h, and_false (eqb (length versions) 1000)) refl
