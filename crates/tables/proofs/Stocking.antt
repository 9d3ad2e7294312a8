-- The laws of adding to a store, record by record.
use mathlib.Core.Path.{◌≡◌, refl, sym, ap, ◌∙◌}
use mathlib.Core.Bool.{Bool, true, false}
use mathlib.Core.List.{List, [], ◌∷◌}
use Prim.Native.Nat.{ℕ, ◌≤◌}
use lib.ListN.{length}
use lib.Dec.{leb}
use borrow.Author.Tests.{leb-true}
use Rattle.records.specs.declared.record.Record.{Record}
use Rattle.records.specs.Record.{record_as, recs, takes_as, takes, good_block, count_good}
use Rattle.tables.specs.declared.Load.{Load}
use Rattle.tables.specs.Loading.{Stocked, stock_one, stock_all, taken}
use Rattle.tables.specs.Steps.{Stocks, stocked_all, StocksAll}
use Rattle.answer.proofs.Parts.{and_left}

abbrev pub both : Load → List ℕ → Stocked
both load bytes = record { load = load; bytes = bytes }

is_both : (load : Load) (rec bytes : List ℕ) (r : Load) (bytes' : List ℕ) → Stocks load rec bytes r bytes' → stock_one (both load bytes) rec ≡ both r bytes'
is_both load rec bytes r bytes' k = sym (λ i. both (k.load' i) (k.store' i))

-- what the record that was told says of its bytes
pub taken_by : (w : ℕ) (piece : List ℕ) (r : Record) (t : Bool) → r ≡ record_as piece → t ≡ takes_as w r.kind r.network → takes w piece ≡ t
unfolding takes
taken_by w piece r t e f = sym (f ∙ ap (λ (q : Record). takes_as w q.kind q.network) e)

-- ---- a walk over records: `left` of them, added to the store as it is, give `all` added to it as it was

module _ (w : ℕ) (s : Stocked) (all : List ℕ) (load : Load) (bytes : List ℕ) (left : List ℕ) (so : stocked_all w s all ≡ stocked_all w (both load bytes) left) where
  pub left_none : recs left ≡ [] → stocked_all w s all ≡ both load bytes
  unfolding stock_all taken
  left_none e = so ∙ rw e refl

  module _ (piece after : List ℕ) (step : recs left ≡ piece ∷ recs after) where
    pub left_skip : takes w piece ≡ false → stocked_all w s all ≡ stocked_all w (both load bytes) after
    unfolding taken
    left_skip e = so ∙ rw (step, e) refl

    pub left_more : takes w piece ≡ true → (r : Load) (bytes' : List ℕ) → Stocks load piece bytes r bytes' → stocked_all w s all ≡ stocked_all w (both r bytes') after
    unfolding taken stock_all
    left_more e r bytes' k = so ∙ rw (step, e) (ap (λ (t : Stocked). stock_all t (taken w (recs after))) (is_both load piece bytes r bytes' k))

pub adds_by : (w : ℕ) (load : Load) (xs bytes : List ℕ) (r : Load) (bytes' : List ℕ) → stocked_all w (both load bytes) xs ≡ both r bytes' → StocksAll w load xs bytes r bytes'
adds_by w load xs bytes r bytes' e = record { load' = sym (ap (λ (s : Stocked). s.load) e); store' = sym (ap (λ (s : Stocked). s.bytes) e) }

-- a good block has its count
pub good_long : (block : List ℕ) → good_block block ≡ true → 2 ≤ length block
unfolding good_block
good_long block e = leb-true 2 (length block) (and_left (leb 2 (length block)) _ (and_left (count_good block) _ e))
