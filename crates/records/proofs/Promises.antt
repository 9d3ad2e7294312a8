-- ONE RESULT: two results of a call that its promise allows for one entry are one.
use mathlib.Core.Path.{◌≡◌, sym, ◌∙◌}
use mathlib.Core.Bool.{Bool}
use mathlib.Core.List.{List}
use Prim.Native.Nat.{ℕ}
use lib.ListN.{length, drop}
use Rattle.std.specs.Prelude.{Option}
use Rattle.records.specs.declared.record.Record.{Record}
use Rattle.records.specs.Record.{found_in, good_block, takes_as, names_as, record_as}
use Rattle.records.specs.Store.{zeros, all_zero, sound_store}

pub record_of_one : (bytes : List ℕ) (r t : Record) → r ≡ record_as bytes → t ≡ record_as bytes → r ≡ t
record_of_one bytes r t e f = e ∙ sym f

pub record_at_one : (s : List ℕ) (at : ℕ) (r t : Option Record) → r ≡ found_in (drop at s) → t ≡ found_in (drop at s) → r ≡ t
record_at_one s at r t e f = e ∙ sym f

pub is_taken_one : (rec : Record) (network : ℕ) (r s : Bool) → r ≡ takes_as network rec.kind rec.network → s ≡ takes_as network rec.kind rec.network → r ≡ s
is_taken_one rec network r s e f = e ∙ sym f

pub is_named_one : (rec : Record) (network : ℕ) (r s : Bool) → r ≡ names_as network rec.network → s ≡ names_as network rec.network → r ≡ s
is_named_one rec network r s e f = e ∙ sym f

pub check_store_one : (network used records : ℕ) (store : List ℕ) (r s : Bool) → r ≡ sound_store network used records store → s ≡ sound_store network used records store → r ≡ s
check_store_one network used records store r s e f = e ∙ sym f

pub block_good_one : (block : List ℕ) (r s : Bool) → r ≡ good_block block → s ≡ good_block block → r ≡ s
block_good_one block r s e f = e ∙ sym f

pub rest_is_zero_one : (store : List ℕ) (used : ℕ) (r s : Bool) → r ≡ all_zero (drop used store) → s ≡ all_zero (drop used store) → r ≡ s
rest_is_zero_one store used r s e f = e ∙ sym f

pub zero_store_one : (store o o' : List ℕ) → o ≡ zeros (length store) → o' ≡ zeros (length store) → o ≡ o'
zero_store_one store o o' e f = e ∙ sym f
