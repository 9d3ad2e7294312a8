-- What the private functions come to. No public promise cites it, and no reader has to believe it.
use Rattle.std.specs.Prelude.{ℕ, ◌+◌, ◌≡◌, cond, List, [], ◌∷◌, length, take, eqb}
use Rattle.answer.specs.Answers.{over}
use Rattle.packet.specs.Packet.{packet_of}
use Rattle.reception.specs.declared.Reception.{Reception}
use Rattle.reception.specs.declared.Reception.TheVariants.{Idle, InData, After13h, FirstCheck, SecondCheck}
use Rattle.reception.specs.Reception.{idle}
use Rattle.execution.specs.Promise.{executed, responded}
use Rattle.state.specs.declared.Held.{Held}
use Rattle.state.specs.declared.Device.{Device}
use Rattle.state.specs.State.{State, state_as, device_as, stored_in, with_line, with_held, held_as}
use Rattle.device.specs.Machine.{good_packet}

abbrev pub payload_in : Device → List ℕ
payload_in d = take d.count d.store

-- the held response's payload
abbrev pub held_payload : Held → List ℕ
held_payload h = take h.response.length h.response.payload

abbrev pub sent_again : Held → Held
sent_again h = record { response = h.response; times = h.times + 1 }

-- the device after a reply, and how many bytes were written
pub record Replied : Type 0 where
  pub device : Device
  pub written : ℕ

-- a state, and what was replied
pub record Told' : Type 0 where
  pub state : State
  pub reply : List ℕ

abbrev pub tells : State → List ℕ → Told'
tells x reply = record { state = x; reply = reply }

abbrev pub with_device : State → Device → State
with_device x d = state_as d x.live x.loading

abbrev pub cancelled : State → Told'
cancelled x = tells (with_device x (with_held x.device (held_as [] 0))) (0x04 ∷ [])

abbrev pub resent : State → Told'
resent x = tells (with_device x (with_held x.device (sent_again x.device.held))) (packet_of (held_payload x.device.held))

abbrev pub refused : State → Told'
refused x = tells (with_device x (with_line x.device idle x.device.store)) (0x15 ∷ [])

abbrev pub ran : State → Told'
ran x =
    let p = payload_in x.device in
    let s = executed p (stored_in x) in
    tells (state_as (device_as idle x.device.store (held_as (responded p (stored_in x)) 0) s.tables) s.live s.loading)
    (0x06 ∷ packet_of (responded p (stored_in x)))

unfoldable pub completed : State → ℕ → ℕ → Told'
completed x a b = cond (good_packet x.device.spoiled (payload_in x.device) a b) (ran x) (refused x)

-- the reply to a byte that is answered
abbrev pub replied_in : Reception → State → ℕ → Told'
replied_in Idle x b = cond (eqb b 0x18) (cancelled x) (resent x)
replied_in InData x b = tells x []
replied_in After13h x b = tells x []
replied_in FirstCheck x b = tells x []
replied_in (SecondCheck a) x b = completed x a b

-- a reply that leaves both stores
pub record Says (t : Told') (out : List ℕ) (r : Replied) (out' : List ℕ) : Type 0 where
  pub is : r ≡ record { device = t.state.device; written = length t.reply }
  pub said : out' ≡ over t.reply out

-- and one that need not
pub record Does (t : Told') (out : List ℕ) (r : Replied) (out' live' loading' : List ℕ) : Type 0 where
  pub is : r ≡ record { device = t.state.device; written = length t.reply }
  pub said : out' ≡ over t.reply out
  pub live_is : live' ≡ t.state.live
  pub loading_is : loading' ≡ t.state.loading

-- a packet written to the start of `out`
pub record Sends (bytes out : List ℕ) (r : ℕ) (out' : List ℕ) : Type 0 where
  pub is : r ≡ length bytes
  pub said : out' ≡ over bytes out
