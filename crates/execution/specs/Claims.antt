-- The tables and loads that can be: the terms of the theorems on sound tables.
use Rattle.std.specs.Prelude.{◌≡◌, true, false, List, [], ℕ, ◌<◌, length}
use Rattle.answer.specs.Pieces.{every}
use Rattle.records.specs.Record.{takes}
use Rattle.records.specs.Store.{fits}
use Rattle.records.specs.Claims.{AllRecords}
use Rattle.command.specs.Texts.{all_text}
use Rattle.execution.specs.Core.{Loading, Opening, Core}
use Rattle.execution.specs.Core.Opening.{none, some}
use Rattle.execution.specs.Stored.{Stored}

-- what the arrays' types and the stores' sizes give
pub record Sized (s : Stored) : Type 0 where
  pub versions_long : length s.tables.versions ≡ 1000
  pub version_long : length s.tables.load.version ≡ 10
  pub live_long : length s.live ≡ 32768
  pub loading_long : length s.loading ≡ 32768

-- records that a load for the network takes, within the limits
pub record Fine (network : ℕ) (rs : List (List ℕ)) : Type 0 where
  pub all : AllRecords rs
  pub taken_all : every (takes network) rs ≡ true
  pub fit : fits 32768 rs ≡ true

-- an open load that can be
pub record LegalLoading (l : Loading) : Type 0 where
  pub network_low : l.network < 100
  pub version_long : length l.version ≡ 10
  pub version_text : all_text l.version ≡ true
  pub kept_fine : Fine l.network l.kept.records
  pub answered : l.any ≡ false → (l.kept.over ≡ false) × (l.kept.records ≡ [])

abbrev pub LegalOpening : Opening → Type 0
LegalOpening none = Unit {0}
LegalOpening (some l) = LegalLoading l

-- a core that can be
pub record LegalCore (c : Core) : Type 0 where
  pub live_fine : Fine 0 c.records
  pub versions_long : length c.versions ≡ 1000
  pub versions_text : all_text c.versions ≡ true
  pub load_legal : LegalOpening c.load
