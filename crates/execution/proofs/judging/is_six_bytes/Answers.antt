-- `execution::judging::is_six_bytes` meets its contract: by the twelve texts.
use Rattle.std.proofs.Common.{rules, tests, List, ℕ, ◌∙◌}
use Rattle.std.proofs.Math.Dec.{eqb}
use Rattle.std.proofs.lemmas.Iterator.{YieldsList-from_slice}
use Rattle.std.proofs.lemmas.Iterator.Search.{any_from_yields_List}
use Rattle.std.specs.Cmp.Lexicographic.{pointwise}
use Rattle.execution.specs.Responses.{six_bytes}
use Rattle.execution.proofs.Same.{any_is}
use Rattle.execution.proofs.judging.is_six_bytes.Goals as goal

pub returns : goal.returns
returns c =
    let p = c.args.p.now in
    any_from_yields_List (λ (q : List ℕ). pointwise eqb q p) _ _ _ c.any.ensures.ran (YieldsList-from_slice six_bytes cc) (λ x b q k. search (rules, tests)) ∙ any_is p six_bytes
