-- A piece is taken, and those after it are left.
use Rattle.std.proofs.Common.{rules, sym, ap, ◌∙◌, arith, List, ℕ, length}
use Rattle.answer.specs.Pieces.{pieces}
use Rattle.answer.proofs.Found.{pieces_found, pieces_lost}
use Rattle.answer.proofs.walk.PiecesIterator.next.Goals as goal

pub returns-in_default-clause-steps : goal.returns-in_default-clause-steps
returns-in_default-clause-steps g c =
    let none = pieces_lost g.P.Piece.size g.met.P.Piece.within c.args.self.now.rest.now (sym c.in_default.is ∙ c.size_in.ensures) in
    (none, none)

pub returns-clause-steps : goal.returns-clause-steps
returns-clause-steps g c =
    let more = pieces_found g.P.Piece.size g.met.P.Piece.within c.args.self.now.rest.now c.in-Some.n (sym c.in-Some.is ∙ c.size_in.ensures) in
    search rules

pub returns-clause-goes : goal.returns-clause-goes
returns-clause-goes g c =
    let more = pieces_found g.P.Piece.size g.met.P.Piece.within c.args.self.now.rest.now c.in-Some.n (sym c.in-Some.is ∙ c.size_in.ensures) in
    let long = ap length more in
    let back = ap (λ (l : List ℕ). length (pieces g.P.Piece.size l)) c.split_at.ensures.back in
    record { on = λ _. (tt, tt, omega arith); keeps = tt; rests = λ _. tt }
