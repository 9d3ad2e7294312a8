-- The state that a board holds.
use Rattle.state.specs.State.{State, state_as}
use Rattle.board.specs.declared.Board.{Board}

abbrev pub state_on : Board → State
state_on board = state_as board.device board.live board.loading
