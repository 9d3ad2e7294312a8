-- How far a call goes follows from what it answers.
use Rattle.board.proofs.Bounds.{goes_within, gets_on}
use Rattle.board.proofs.Board.receive.Goals as goal

pub returns-clause-within : goal.returns-clause-within
returns-clause-within c = goes_within _ _ _ _ c.receive.result _ _ _ c.receive.ensures c.receive.auto.out

pub returns-clause-gets_on : goal.returns-clause-gets_on
returns-clause-gets_on c = gets_on _ _ _ _ c.receive.result _ _ _ c.receive.ensures
