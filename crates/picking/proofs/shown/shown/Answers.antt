-- `picking::shown::shown` meets its contract: the object that is found is the first with this tag.
use Rattle.std.proofs.Common.{rules, ◌∙◌, refl, [], ap, List, ℕ, Bor}
use Rattle.std.specs.Option.{unwrap_or}
use Rattle.std.specs.Prelude.{Option}
use borrow.Author.Tests.{tests}
use Rattle.std.proofs.lemmas.Iterator.Search.{find_from_yields_List}
use Rattle.std.proofs.lemmas.Iterator.Consumers.{YieldsList-from_first}
use Rattle.answer.specs.Pieces.{pieces}
use Rattle.objects.specs.Object.{object_in, object_size}
use Rattle.picking.specs.Pick.{same}
use Rattle.picking.proofs.Same.{now_or, shown_first}
use Rattle.picking.proofs.shown.shown.Goals as goal

pub returns : goal.returns
returns c =
    let t = c.args.tag.now in
    let all = pieces object_size c.args.objects.now in
    let source = YieldsList-from_first (λ (x : Bor (List ℕ)). x.now) (λ s. pieces object_size s.rest.now) {s = c.pieces_of.result} all (ap (pieces object_size) c.pieces_of.ensures) in
    let found = find_from_yields_List (λ (p : List ℕ). same t (object_in p).tag) c.find.new.self _ c.find.result c.find.ensures.ran source (λ x b q k. search (rules, tests)) in
    ap (λ (x : Bor (List ℕ)). x.now) c.unwrap_or.ensures ∙ now_or c.find.result _ refl ∙ ap (λ (o : Option (List ℕ)). unwrap_or o []) found ∙ shown_first t (search rules) all
