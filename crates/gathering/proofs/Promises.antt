-- What the promise of `gather` fixes.
use mathlib.Core.Path.{◌≡◌, sym, ◌∙◌}
use mathlib.Core.List.{List}
use Prim.Native.Nat.{ℕ}
use Rattle.gathering.specs.declared.Gathered.{Gathered}
use Rattle.gathering.specs.Gathering.{Got, Gathers}

-- two results that it allows are one, the store included
pub gather_one : (g : Got) (r s : Gathered) (o o' : List ℕ) → Gathers g r o → Gathers g s o' → (r ≡ s) × (o ≡ o')
gather_one g r s o o' e f = (e.is ∙ sym f.is, e.store_is ∙ sym f.store_is)
