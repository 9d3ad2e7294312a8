-- The laws of what a test picks: the parts of a judgement, and what each command leaves and is answered.
use mathlib.Core.Path.{◌≡◌, refl, sym, ap, ◌∙◌}
use mathlib.Core.Bool.{Bool, true, false, cond, true≢false, false≢true}
use mathlib.Core.List.{List}
use Prim.Native.Nat.{ℕ}
use lib.ListN.{length}
use Rattle.std.specs.Prelude.{Option, Some, None}
use lib.Dec.{eqb}
use Rattle.std.specs.Cmp.Lexicographic.{pointwise}
use Rattle.records.specs.Store.{zeros}
use Rattle.tables.specs.declared.Extent.{Extent}
use Rattle.tables.specs.Closing.{Closes, new_extent, new_version, new_versions, version_of}
use Rattle.command.specs.declared.Command.{Command}
use Rattle.command.specs.declared.Command.TheVariants.{Tlr}
use Rattle.command.specs.Texts.{ascii}
use Rattle.command.specs.Command.{command_of}
use Rattle.execution.specs.declared.OpenLoad.{OpenLoad}
use Rattle.execution.specs.declared.Tables.{Tables}
use Rattle.execution.specs.declared.Response.{Response}
use Rattle.execution.specs.CommandTable.{version_in, block_in, same, response_to}
use Rattle.execution.specs.Stored.{Stored, stored_as, no_load}
use Rattle.execution.specs.Promise.{Executed, tables_with, new_load, grown, stocked_in, fed_in, accepted_in, replaced_in, dropped_in, ended_in, executed_as, executed, responded, response_with, Executes}
use Rattle.execution.proofs.Same.{same_is}
use Rattle.execution.specs.Steps.{executed_of, Leaves, after_tle, tle_response, Ends}

-- ---- a test

picked : {A : Type 0} (b : Bool) (x y : A) → b ≡ true → cond b x y ≡ x
picked true x y e = refl
picked false x y e = absurd (false≢true e)

left : {A : Type 0} (b : Bool) (x y : A) → b ≡ false → cond b x y ≡ y
left true x y e = absurd (true≢false e)
left false x y e = refl

-- ---- TLI and TLR

-- TLI: the load is opened, and the text hangs on whether the version is held
pub leaves_opened : (t : Tables) (n : ℕ) (p loading loading' v w held : List ℕ) (b : Bool) (l : OpenLoad) (r : Response)
    → v ≡ version_in p → w ≡ v → held ≡ version_of n t.versions → pointwise eqb w held ≡ b → l ≡ new_load n v
    → r ≡ response_with (cond b (ascii "TLI000") (ascii "TLI020")) → loading' ≡ zeros (length loading)
    → Leaves (tables_with t (new_load n (version_in p))) (cond (same (version_in p) (version_of n t.versions)) (ascii "TLI000") (ascii "TLI020")) (zeros (length loading)) (record { tables = tables_with t l; response = r }) loading'
leaves_opened t n p loading loading' v w held b l r ev ew eh eb el er es =
    let is : b ≡ same (version_in p) (version_of n t.versions) =
    sym eb ∙ same_is w held ∙ ap (λ (x : List ℕ). same x held) (ew ∙ ev) ∙ ap (same (version_in p)) eh in
    let load : l ≡ new_load n (version_in p) = el ∙ ap (new_load n) ev in
    let said = er ∙ ap (λ (x : Bool). response_with (cond x (ascii "TLI000") (ascii "TLI020"))) is in
    record { is = (λ i. record { tables = tables_with t (load i); response = said i }); store = es }

module _ (t : Tables) (p loading loading' : List ℕ) where
  -- what TLR leaves, by whether a load is open
  abbrev pub FedBy : Bool → Executed → Type 0
  FedBy opened r =
      Leaves (cond opened (tables_with t (grown t.load (stocked_in t.load loading (block_in p)).load)) t) (cond opened (ascii "TLR000") (ascii "TLR010"))
      (cond opened (stocked_in t.load loading (block_in p)).bytes loading) r loading'

-- ---- TLE

is_none : (t : Bool) (x : Extent) → (let o : Option Extent = cond t (Some x) None in o) ≡ None → t ≡ false
is_none true x e = absurd cc
is_none false x e = refl

is_some : (t : Bool) (x y : Extent) → (let o : Option Extent = cond t (Some x) None in o) ≡ Some y → (t ≡ true) × (x ≡ y)
is_some true x y e = (refl, cc)
is_some false x y e = absurd cc

module _ (s : Stored) where
  ends_by : (after : Stored) (text : List ℕ) → after_tle s ≡ after → tle_response s ≡ text
      → (r : Executed) (live' loading' : List ℕ) → r ≡ executed_of after.tables text → live' ≡ after.live → loading' ≡ after.loading → Ends s r live' loading'
  ends_by after text e f r live' loading' er el es = record {
    is = er ∙ ap (λ (x : Stored). executed_of x.tables text) (sym e) ∙ ap (executed_of (after_tle s).tables) (sym f);
    live_is = el ∙ ap (λ (x : Stored). x.live) (sym e);
    store = es ∙ ap (λ (x : Stored). x.loading) (sym e);
  }

module _ (t : Tables) (live loading : List ℕ) where
  module _ (live' loading' : List ℕ) (o : t.load.opened ≡ true) (k : Option Extent) (c : Closes t.load.network t.live t.load.kept live loading k live' loading') where
    abbrev new : Extent
    new = new_extent t.load.network t.live live t.load.kept loading

    -- past a limit the load is dropped
    pub ends_dropped : k ≡ None → (l : OpenLoad) (r : Response) → l ≡ no_load → r ≡ response_with (ascii "TLE021")
        → Ends (stored_as t live loading) (record { tables = tables_with t l; response = r }) live' loading'
    unfolding accepted_in
    ends_dropped d l r el er =
        let s = stored_as t live loading in
        let q = is_none (accepted_in s) new (sym c.answer ∙ d) in
        ends_by s (dropped_in s) (ascii "TLE021") (picked t.load.opened (ended_in s) s o ∙ left (accepted_in s) (replaced_in s) (dropped_in s) q)
        (picked t.load.opened (cond (accepted_in s) (ascii "TLE000") (ascii "TLE021")) (ascii "TLE010") o ∙ left (accepted_in s) (ascii "TLE000") (ascii "TLE021") q)
        _ live' loading' (λ i. record { tables = tables_with t (el i); response = er i })
        (c.store ∙ left _ _ live q) c.zeroed

    -- else the new set is the live one
    pub ends_replaced : (e : Extent) → k ≡ Some e → (v versions : List ℕ) (l : OpenLoad) (r : Response) → v ≡ new_version t.load.any t.load.version
        → versions ≡ new_versions t.load.network v t.versions → l ≡ no_load
        → r ≡ response_with (ascii "TLE000")
        → Ends (stored_as t live loading) (record { tables = record { versions = versions; live = e; load = l }; response = r }) live' loading'
    unfolding accepted_in
    ends_replaced e d v versions l r ev en el er =
        let s = stored_as t live loading in
        let (q, x) = is_some (accepted_in s) new e (sym c.answer ∙ d) in
        let w = en ∙ ap (λ (y : List ℕ). new_versions t.load.network y t.versions) ev in
        ends_by s (replaced_in s) (ascii "TLE000") (picked t.load.opened (ended_in s) s o ∙ picked (accepted_in s) (replaced_in s) (dropped_in s) q)
        (picked t.load.opened (cond (accepted_in s) (ascii "TLE000") (ascii "TLE021")) (ascii "TLE010") o ∙ picked (accepted_in s) (ascii "TLE000") (ascii "TLE021") q)
        _ live' loading' (λ i. record { tables = record { versions = w i; live = sym x i; load = el i }; response = er i })
        (c.store ∙ picked _ _ live q) c.zeroed

-- ---- any command

-- what the command of the payload leaves and is answered
pub executes_by : (p : List ℕ) (s : Stored) (k : Command) → command_of p ≡ k → (r : Executed) (live' loading' : List ℕ)
    → r ≡ executed_of (executed_as k p s).tables (response_to k p s.tables.versions s.tables.load.opened (accepted_in s))
    → live' ≡ (executed_as k p s).live → loading' ≡ (executed_as k p s).loading → Executes p s r live' loading'
unfolding executed responded
executes_by p s k e r live' loading' er el es = record {
  tables' = ap (λ (x : Executed). x.tables) er ∙ ap (λ (c : Command). (executed_as c p s).tables) (sym e);
  response = ap (λ (x : Executed). x.response) er ∙ ap (λ (c : Command). response_with (response_to c p s.tables.versions s.tables.load.opened (accepted_in s))) (sym e);
  live_is = el ∙ ap (λ (c : Command). (executed_as c p s).live) (sym e);
  loading_is = es ∙ ap (λ (c : Command). (executed_as c p s).loading) (sym e);
}

-- and of one that leaves all as it is
pub answers_by : (p : List ℕ) (s : Stored) (k : Command) → command_of p ≡ k → (r : Response) → r ≡ response_with (response_to k p s.tables.versions s.tables.load.opened (accepted_in s))
    → executed_as k p s ≡ s → Executes p s (record { tables = s.tables; response = r }) s.live s.loading
answers_by p s k e r er same =
    executes_by p s k e (record { tables = s.tables; response = r }) s.live s.loading
    (λ i. record { tables = (sym same i).tables; response = er i }) (ap (λ (x : Stored). x.live) (sym same)) (ap (λ (x : Stored). x.loading) (sym same))

-- TLR, by what it leaves
pub executes_fed : (p : List ℕ) (s : Stored) → command_of p ≡ Tlr → (r : Executed) (loading' : List ℕ) → FedBy s.tables p s.loading loading' s.tables.load.opened r
    → Executes p s r s.live loading'
unfolding response_to
executes_fed p s e r loading' l =
    let f = fed s.tables.load.opened l in
    executes_by p s Tlr e r s.live loading' f.0 f.1 f.2
  where
    fed : (opened : Bool) → FedBy s.tables p s.loading loading' opened r
        → (r ≡ executed_of (cond opened (fed_in (block_in p) s) s).tables (cond opened (ascii "TLR000") (ascii "TLR010")))
        × (s.live ≡ (cond opened (fed_in (block_in p) s) s).live) × (loading' ≡ (cond opened (fed_in (block_in p) s) s).loading)
    fed true x = (x.is, refl, x.store)
    fed false x = (x.is, refl, x.store)
