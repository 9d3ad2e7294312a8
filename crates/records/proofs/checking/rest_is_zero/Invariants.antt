-- `records::checking::rest_is_zero` meets its contract: what is joined is zero and the others are just if all are.
use mathlib.Core.Path.{◌≡◌}
use mathlib.Core.Bool.{◌&&◌}
use lib.ListN.{drop}
use lib.Dec.{eqb}
use Rattle.records.specs.Store.{all_zero}
use Rattle.records.proofs.checking.rest_is_zero.Given as goal

abbrev pub invariant-loop-b : goal.invariant-loop-b
invariant-loop-b l = all_zero l.rest ≡ (eqb l.joined 0 && all_zero (drop l.b-index l.rest))
