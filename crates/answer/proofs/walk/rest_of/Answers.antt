-- A piece is passed over.
use Rattle.std.proofs.Common.{rules, sym, ap, ◌∙◌}
use Rattle.answer.specs.Pieces.{rest}
use Rattle.answer.proofs.Parts.{rest_part}
use Rattle.answer.proofs.Found.{rest_found, rest_lost}
use Rattle.answer.proofs.walk.rest_of.Goals as goal

pub loop-n-preserved : goal.loop-n-preserved
loop-n-preserved g c =
    let more = rest_found g.P.Piece.size g.met.P.Piece.within c.loop-n.left.now c.in-Some.n (sym c.in-Some.is ∙ c.size_in.ensures) in
    c.loop-n.invariant ∙ more ∙ ap (rest g.P.Piece.size) (sym (rest_part c.loop-n.left.now c.in-Some.n))

pub returns : goal.returns
returns g c =
    let none = rest_lost g.P.Piece.size g.met.P.Piece.within c.loop-n.left.now (sym c.in_default.is ∙ c.size_in.ensures) in
    search rules
