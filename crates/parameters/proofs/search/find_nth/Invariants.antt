-- `parameters::search::find_nth` meets its contract: the `left`th of what is left is the nth of all.
use Prim.Native.Nat.{◌≤◌, ◌-◌}
use mathlib.Core.Path.{◌≡◌}
use lib.ListN.{length, drop}
use Rattle.parameters.specs.Parameters.{parameters}
use Rattle.parameters.specs.Finding.{numbered, nth, data_at}
use Rattle.parameters.proofs.search.find_nth.Given as goal

abbrev pub invariant-loop-k : goal.invariant-loop-k
invariant-loop-k l =
    (l.at ≤ length l.list) × (1 ≤ l.left) × (nth l.n (numbered l.number (parameters l.list)) ≡ nth l.left (numbered l.number (parameters (drop l.at l.list))))
    × (data_at l.number l.n 0 (parameters l.list) ≡ data_at l.number l.left l.at (parameters (drop l.at l.list)))

abbrev pub decreases-loop-k : goal.decreases-loop-k
decreases-loop-k l = length l.list - l.at
