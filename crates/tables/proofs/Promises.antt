-- ONE RESULT: two results of a call that its promise allows for one entry are one.
use mathlib.Core.Path.{◌≡◌, sym, ◌∙◌}
use mathlib.Core.List.{List}
use Prim.Native.Nat.{ℕ}
use Rattle.std.specs.Prelude.{Option}
use Rattle.tables.specs.declared.Extent.{Extent}
use Rattle.tables.specs.declared.Load.{Load}
use Rattle.tables.specs.Loading.{Adds}
use Rattle.tables.specs.Closing.{Closes, new_versions}

pub add_block_one : (network : ℕ) (load : Load) (block store : List ℕ) (r s : Load) (o o' : List ℕ) → Adds network load block store r o → Adds network load block store s o'
    → (r ≡ s) × (o ≡ o')
add_block_one network load block store r s o o' g h = (g.load' ∙ sym h.load', g.store' ∙ sym h.store')

-- the answer and both stores
pub close_load_one : (network : ℕ) (extent : Extent) (load : Load) (live loading : List ℕ) (r s : Option Extent) (a b a' b' : List ℕ)
    → Closes network extent load live loading r a b → Closes network extent load live loading s a' b' → (r ≡ s) × (a ≡ a') × (b ≡ b')
close_load_one network extent load live loading r s a b a' b' g h = (g.answer ∙ sym h.answer, g.store ∙ sym h.store, g.zeroed ∙ sym h.zeroed)

pub versions_after_one : (network : ℕ) (version versions r s : List ℕ) → r ≡ new_versions network version versions → s ≡ new_versions network version versions → r ≡ s
versions_after_one network version versions r s e f = e ∙ sym f
