-- What a call leaves of the state, said by the code's own steps.
use mathlib.Core.Path.{◌≡◌, refl, sym, ap, ◌∙◌}
use mathlib.Core.Bool.{Bool, true, false}
use mathlib.Core.List.{List, []}
use Prim.Native.Nat.{ℕ}
use Rattle.reception.specs.declared.Line.{Line}
use Rattle.reception.specs.Reception.{idle}
use Rattle.execution.specs.Core.{with_load}
use Rattle.execution.specs.Core.Opening.{none}
use Rattle.execution.specs.Promise.{dropped_in}
use Rattle.state.specs.State.{State, state_as, device_as, line_in, stored_in, with_line, held_as, can_resend}
use Rattle.state.specs.Sound.{held_sound}
use Rattle.device.specs.Machine.{Called, step}
use Rattle.device.specs.Machine.Holding.{nothing}
use Rattle.device.specs.Events.Event.{timeout, restart}
use Rattle.device.specs.Between.{machine_of, state_of}
use Rattle.device.specs.Promise.{Left, after_piece, after_event}
use Rattle.gathering.specs.Gathering.{asks_in, Got, gathered}
use Rattle.device.specs.Steps.{with_device, replied_in}
use Rattle.gathering.proofs.Kept.{gathered_asks}
use Rattle.device.proofs.Calling.{called_by, call_gathered}
use Rattle.device.proofs.Replies.{Known, held_back, can_is, state_parts, known_line, replied_state, replied_reply}

-- the state with another line and reception store
abbrev pub line_to : State → Line → List ℕ → State
line_to x line store = with_device x (with_line x.device line store)

-- what a piece gathers from a state on
abbrev pub gathered_in : State → List ℕ → Got
gathered_in x piece = gathered (can_resend x.device.held) (line_in x.device) x.device.store 0 piece

abbrev left_by : Called → Left
left_by c = record { state = state_of c.machine; taken = c.taken; reply = c.reply }

-- what is left where a byte is answered
abbrev pub asked_left : State → Got → Left
asked_left x g =
    record {
      state = (replied_in g.line.state (line_to x g.line g.store) g.last).state;
      taken = g.taken;
      reply = (replied_in g.line.state (line_to x g.line g.store) g.last).reply;
    }

-- and where none is
abbrev pub silent_left : State → Got → Left
silent_left x g = record { state = line_to x g.line g.store; taken = g.taken; reply = [] }

-- what the machine's call leaves
left_call : (x : State) (piece : List ℕ) → after_piece piece x ≡ left_by (called_by (machine_of x) (gathered_in x piece))
unfolding after_piece machine_of
left_call x piece =
    ap left_by
    (call_gathered (machine_of x) piece
    ∙ ap (λ (t : Bool). called_by (machine_of x) (gathered t (line_in x.device) x.device.store 0 piece)) (can_is x.device.held))

module _ (x : State) (k : Known x) (h : held_sound x.device.held ≡ true) where
  -- the machine on another line has the state on it
  line_left : (line : Line) (store : List ℕ)
      → state_of (record { line = line; store = store; response = (machine_of x).response; core = (machine_of x).core }) ≡ line_to x line store
  unfolding machine_of
  line_left line store =
      state_parts line store (machine_of x).response (machine_of x).core x.device.held (stored_in x) (held_back x.device.held k.payload_long h) k.back

  left_asked : (g : Got) → g.asked ≡ true → asks_in g.line.state (can_resend x.device.held) g.last ≡ true
      → left_by (called_by (machine_of x) g) ≡ asked_left x g
  unfolding machine_of
  left_asked g e a =
      let y = line_to x g.line g.store in
      let q = known_line x g.line g.store k in
      rw e (λ i. record { state = replied_state y g.last q h a i; taken = g.taken; reply = replied_reply y g.last q h a i })

  left_silent : (g : Got) → g.asked ≡ false → left_by (called_by (machine_of x) g) ≡ silent_left x g
  left_silent g e = rw e (λ i. record { state = line_left g.line g.store i; taken = g.taken; reply = [] })

module _ (x : State) (piece : List ℕ) (k : Known x) (h : held_sound x.device.held ≡ true) where
  -- A PIECE with a byte that is answered
  pub piece_asked : (gathered_in x piece).asked ≡ true → after_piece piece x ≡ asked_left x (gathered_in x piece)
  piece_asked e =
      left_call x piece
      ∙ left_asked x k h (gathered_in x piece) e (gathered_asks (can_resend x.device.held) (line_in x.device) x.device.store 0 piece e)

  -- A PIECE with none
  pub piece_silent : (gathered_in x piece).asked ≡ false → after_piece piece x ≡ silent_left x (gathered_in x piece)
  piece_silent e = left_call x piece ∙ left_silent x k h (gathered_in x piece) e

-- A TIMEOUT
pub timeout_left : (x : State) → Known x → held_sound x.device.held ≡ true
    → after_event timeout x ≡ record { state = line_to x idle x.device.store; taken = 0; reply = [] }
unfolding after_event step machine_of
timeout_left x k h = λ i. record { state = line_left x k h idle x.device.store i; taken = 0; reply = [] }

-- A RESTART
pub restart_left : (x : State) → Known x
    → after_event restart x
    ≡ record {
      state = state_as (device_as idle x.device.store (held_as [] 0) (dropped_in (stored_in x)).tables) (dropped_in (stored_in x)).live (dropped_in (stored_in x)).loading;
      taken = 0;
      reply = [];
    }
unfolding after_event step machine_of
restart_left x k =
    let e = state_parts idle x.device.store nothing (with_load (machine_of x).core none) (held_as [] 0) (dropped_in (stored_in x)) refl (sym k.drops_is) in
    λ i. record { state = e i; taken = 0; reply = [] }
