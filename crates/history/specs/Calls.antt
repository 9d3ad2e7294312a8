-- Any sequence of device calls that hands over a history, by what the public calls promise (scope paper, section Reception, its end).
use Rattle.std.specs.Prelude.{ℕ, zero, suc, ◌≡◌, List, [], ◌∷◌, ◌++◌, take, drop}
use Rattle.state.specs.State.{State, state_as}
use Rattle.device.specs.Events.{Event}
use Rattle.device.specs.Events.Event.{byte, timeout, restart}
use Rattle.device.specs.Promise.{Received, Left, after_piece, after_event, Answers}

-- bytes, and then the rest of a history
unfoldable pub bytes_then : List ℕ → List Event → List Event
bytes_then [] h = h
bytes_then (b ∷ bs) h = byte b ∷ bytes_then bs h

-- a refused event is still to be handed over
abbrev pub still_there : ℕ → Event → List Event → List Event
still_there zero e h = h
still_there (suc n) e h = e ∷ h

-- `Calls x h rest y said`: calls that hand the history h to the state x, up to `rest`, leave y, and what they wrote, joined, is `said`.
-- A call is offered any piece of the bytes up to the next other event; what it did not take is offered again, in any cut. Room and contents of
-- `out` are the caller's. A refused call may stand anywhere, one on other stores too
pub data Calls : State → List Event → List Event → State → List ℕ → Type 0 where
  done : {x : State} {h : List Event} → Calls x h h x []
  received : {x y : State} {rest : List Event} {said : List ℕ} (piece : List ℕ) (h : List Event) (out : List ℕ) (r : Received) (out' live' loading' : List ℕ)
      → Answers x (after_piece piece x) out r out' live' loading'
      → Calls (state_as r.device live' loading') (bytes_then (drop r.taken piece) h) rest y said
      → Calls x (bytes_then piece h) rest y (take r.written out' ++ said)
  timed_out : {x y : State} {h rest : List Event} {said : List ℕ} (out : List ℕ) (r : Received) (out' live' loading' : List ℕ)
      → Answers x (after_event timeout x) out r out' live' loading'
      → Calls (state_as r.device live' loading') (still_there r.refusal timeout h) rest y said
      → Calls x (timeout ∷ h) rest y (take r.written out' ++ said)
  restarts : {x y : State} {h rest : List Event} {said : List ℕ} (out : List ℕ) (r : Received) (out' live' loading' : List ℕ)
      → Answers x (after_event restart x) out r out' live' loading'
      → Calls (state_as r.device live' loading') (still_there r.refusal restart h) rest y said
      → Calls x (restart ∷ h) rest y (take r.written out' ++ said)
  refused_on : {x y : State} {h rest : List Event} {said : List ℕ} (live loading : List ℕ) (left : Left) (out : List ℕ) (r : Received) (out' live' loading' : List ℕ)
      → Answers (state_as x.device live loading) left out r out' live' loading' → (r.refusal ≡ 0 → ⊥)
      → Calls (state_as r.device x.live x.loading) h rest y said
      → Calls x h rest y (take r.written out' ++ said)
