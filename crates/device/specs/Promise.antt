-- What the device calls promise, for any device, any pieces and any bytes in the lent buffers.
use Rattle.std.specs.Prelude.{ℕ, zero, suc, ◌≡◌, cond, List, [], length, Result, Ok, Err}
use Rattle.answer.specs.Answers.{over}
use Rattle.answer.specs.declared.refusal.Refusal.{Refusal}
use Rattle.answer.specs.Refusals.{number_of, number_in}
use Rattle.state.specs.declared.Device.{Device}
use Rattle.state.specs.State.{State, state_as}
use Rattle.state.specs.Sound.{both_sized, refusal_of}
use Rattle.device.specs.declared.Taken.{Taken}
use Rattle.device.specs.Events.{Event}
use Rattle.device.specs.Machine.{fresh, step, call}
use Rattle.device.specs.Between.{machine_of, state_of}

-- a call's answer in numbers: the device after it, the refusal or 0, how many bytes it took and how many it wrote
pub record Received : Type 0 where
  pub device : Device
  pub refusal : ℕ
  pub taken : ℕ
  pub written : ℕ

-- a refused call took and wrote nothing
abbrev pub received : Device → Result Taken Refusal → Received
received device (Ok t) = record { device = device; refusal = 0; taken = t.taken; written = t.written }
received device (Err e) = record { device = device; refusal = number_of e; taken = 0; written = 0 }

-- what a call leaves, how many bytes it took, and what it replied
pub record Left : Type 0 where
  pub state : State
  pub taken : ℕ
  pub reply : List ℕ

-- a piece of bytes: the machine's call
unfoldable pub after_piece : List ℕ → State → Left
after_piece piece x =
    let c = call (machine_of x) piece in
    record { state = state_of c.machine; taken = c.taken; reply = c.reply }

-- a timeout or a restart: the machine's step, which takes no byte
unfoldable pub after_event : Event → State → Left
after_event e x =
    let s = step (machine_of x) e in
    record { state = state_of s.machine; taken = 0; reply = s.reply }

-- a refused call leaves everything as it was, takes nothing and replies nothing
abbrev pub unless : ℕ → State → Left → Left
unless zero x left = left
unless (suc n) x left = record { state = x; taken = 0; reply = [] }

-- the answer, the device and every byte of the three buffers, from what the call leaves
pub record Gives (refusal : ℕ) (left : Left) (out : List ℕ) (r : Received) (out' live' loading' : List ℕ) : Type 0 where
  pub result : r ≡ record { device = left.state.device; refusal = refusal; taken = left.taken; written = length left.reply }
  pub said : out' ≡ over left.reply out
  pub live_is : live' ≡ left.state.live
  pub loading_is : loading' ≡ left.state.loading

-- THE PROMISE of a device call
abbrev pub Answers : State → Left → List ℕ → Received → List ℕ → List ℕ → List ℕ → Type 0
Answers x left out r out' live' loading' =
    Gives (refusal_of (length out) x) (unless (refusal_of (length out) x) x left) out r out' live' loading'

-- starting: a fresh device and zeroed stores. Refusal 2 leaves the stores; the device is the fresh one all the same
abbrev pub start_refusal : List ℕ → List ℕ → ℕ
start_refusal live loading = cond (both_sized live loading) 0 2

abbrev pub started_from : ℕ → List ℕ → List ℕ → State
started_from zero live loading = state_of fresh
started_from (suc n) live loading = state_as (state_of fresh).device live loading

-- the same of starting: the device, and the refusal or 0
pub record Started : Type 0 where
  pub device : Device
  pub refusal : ℕ

abbrev pub started : {A : Type 0} → Device → Result A Refusal → Started
started device answer = record { device = device; refusal = number_in answer }

-- THE PROMISE of starting
pub record Starts (live loading : List ℕ) (r : Started) (live' loading' : List ℕ) : Type 0 where
  pub result : r ≡ record { device = (state_of fresh).device; refusal = start_refusal live loading }
  pub live_is : live' ≡ (started_from (start_refusal live loading) live loading).live
  pub loading_is : loading' ≡ (started_from (start_refusal live loading) live loading).loading
