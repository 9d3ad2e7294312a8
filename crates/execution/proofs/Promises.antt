-- ONE RESULT: two results of a call that its promise allows for one entry are one.
use mathlib.Core.Path.{◌≡◌, sym, ◌∙◌}
use mathlib.Core.Bool.{Bool}
use mathlib.Core.List.{List}
use Prim.Native.Nat.{ℕ}
use Rattle.execution.specs.declared.Tables.{Tables}
use Rattle.execution.specs.Core.{fresh_core}
use Rattle.execution.specs.Responses.{is_response}
use Rattle.execution.specs.Stored.{Stored, stored_as, stored_of, sound_tables}
use Rattle.execution.specs.Promise.{Executed, Executes, Drops}

pub fresh_tables_one : (r s : Tables) → r ≡ (stored_of fresh_core).tables → s ≡ (stored_of fresh_core).tables → r ≡ s
fresh_tables_one r s e f = e ∙ sym f

-- the struct with the response, and both stores
pub execute_one : (p : List ℕ) (stored : Stored) (r s : Executed) (a b a' b' : List ℕ) → Executes p stored r a b → Executes p stored s a' b' → (r ≡ s) × (a ≡ a') × (b ≡ b')
execute_one p stored r s a b a' b' g h =
    let t = g.tables' ∙ sym h.tables' in
    let u = g.response ∙ sym h.response in
    ((λ i. record { tables = t i; response = u i }), g.live_is ∙ sym h.live_is, g.loading_is ∙ sym h.loading_is)

-- the struct and the loading store
pub drop_load_one : (tables : Tables) (loading : List ℕ) (r s : Tables) (o o' : List ℕ) → Drops tables loading r o → Drops tables loading s o' → (r ≡ s) × (o ≡ o')
drop_load_one tables loading r s o o' g h = (g.tables' ∙ sym h.tables', g.store' ∙ sym h.store')

pub tables_sound_one : (tables : Tables) (live loading : List ℕ) (r s : Bool) → r ≡ sound_tables (stored_as tables live loading) → s ≡ sound_tables (stored_as tables live loading)
    → r ≡ s
tables_sound_one tables live loading r s e f = e ∙ sym f

pub is_response_one : (p : List ℕ) (r s : Bool) → r ≡ is_response p → s ≡ is_response p → r ≡ s
is_response_one p r s e f = e ∙ sym f
