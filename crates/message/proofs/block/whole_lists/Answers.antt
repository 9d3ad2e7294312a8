-- All of the blocks pass.
use Rattle.std.proofs.Common.{rules, ap, ◌∙◌}
use Rattle.std.proofs.lemmas.Iterator.Consumers.{YieldsList-from_first}
use Rattle.std.proofs.lemmas.Iterator.Search.{all_from_yields_List}
use borrow.Author.Tests.{tests}
use lib.ListN.{drop}
use Rattle.answer.specs.Pieces.{pieces}
use Rattle.parameters.specs.Parameters.{whole_list}
use Rattle.message.specs.Blocks.{block_in}
use Rattle.message.proofs.Blocks.{lists_all}
use Rattle.message.proofs.block.whole_lists.Goals as goal

pub returns : goal.returns
returns c =
    all_from_yields_List (λ q. whole_list (drop 3 q)) c.all.new.self _ _ c.all.ensures.ran
    (YieldsList-from_first (λ x. x.now) (λ s. pieces block_in s.rest.now) (pieces block_in c.args.body.now) (ap (pieces block_in) c.pieces_of.ensures))
    (λ x b q k. search (rules, tests))
    ∙ lists_all (pieces block_in c.args.body.now)
