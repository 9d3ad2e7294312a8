-- What the private functions come to. No public promise cites it, and no reader has to believe it.
use Rattle.std.specs.Prelude.{ℕ, Bool, true, ◌&&◌, List, length, eqb, Option, Some, None}
use Rattle.answer.specs.Pieces.{whole, every}
use Rattle.records.specs.Record.{record_in, recs, takes}

-- a load for the network takes the record; where there is no network, any record will do
unfoldable pub passes : Option ℕ → List ℕ → Bool
passes None = λ r. true
passes (Some network) = takes network

-- the bytes are whole records, as many as told, which pass
unfoldable pub records_good : Option ℕ → ℕ → List ℕ → Bool
records_good network records bytes = whole record_in bytes && (eqb (length (recs bytes)) records && every (passes network) (recs bytes))
