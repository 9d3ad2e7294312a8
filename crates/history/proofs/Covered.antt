-- There are such calls: every history can be handed over whole, from every state that a device can be in, and so can what any calls left of one.
use mathlib.Core.Path.{◌≡◌, refl, sym, ap, subst}
use mathlib.Core.Bool.{Bool, true, false, cond}
use mathlib.Core.List.{List, [], ◌∷◌}
use Prim.Native.Nat.{ℕ, ◌≤◌}
use native.Mathlib.Omega.{arith}
use lib.ListN.{length, drop, replicate, length-replicate}
use Rattle.answer.specs.Answers.{over}
use Rattle.state.specs.State.{State}
use Rattle.device.specs.Events.{Event}
use Rattle.device.specs.Events.Event.{byte, timeout, restart}
use Rattle.device.specs.Machine.{Machine, Called, fresh, step, is_none, call}
use Rattle.device.specs.Between.{state_of}
use Rattle.device.specs.Promise.{Left, after_piece, after_event, unless, Gives}
use Rattle.device.specs.Claims.{Legal}
use Rattle.device.proofs.Back.{machine_back}
use Rattle.history.specs.Calls.{bytes_then, Calls}
use Rattle.history.specs.Calls.Calls.{done, received, timed_out, restarts}
use Rattle.history.specs.Reading.{run}
use Rattle.history.specs.Claims.{Covered, answer_for, Allows, piece_left, event_left}
use Rattle.history.proofs.LegalRuns.{fresh_legal, step_legal, run_legal, accepted}
use Rattle.history.proofs.Handed.{handed}

covers : {x : State} {h : List Event} {y : State} {said : List ℕ} → Calls x h [] y said → Covered x h
covers {x} {h} {y} {said} c = record { last = y; said = said; calls = c }

-- ---- one call has an answer

-- it does so on a legal machine's state, where there is room for 64 bytes
allowed : (m : Machine) → Legal m → (left l : Left) → left ≡ l → (out : List ℕ) → 64 ≤ length out → Allows (state_of m) left l out
allowed m g left l e out k =
    let G : ℕ → Left → Type 0 = λ n q. Gives n q out (answer_for l) (over l.reply out) l.state.live l.state.loading in
    let t : G 0 l = record { result = refl; said = refl; live_is = refl; loading_is = refl } in
    subst (λ (n : ℕ). G n (unless n (state_of m) left)) (sym (accepted m g (length out) k)) (subst (G 0) (sym e) t)

-- ANY PIECE, in any `out` of 64 bytes or more: the promise allows the answer 0 with the machine's call
pub piece_allowed : (m : Machine) → Legal m → (piece out : List ℕ) → 64 ≤ length out → Allows (state_of m) (after_piece piece (state_of m)) (piece_left m piece) out
unfolding after_piece
piece_allowed m g piece out k = allowed m g (after_piece piece (state_of m)) (piece_left m piece) (ap (λ (q : Machine). piece_left q piece) (machine_back m g)) out k

-- and so for a timeout and a restart
pub event_allowed : (m : Machine) → Legal m → (e : Event) (out : List ℕ) → 64 ≤ length out → Allows (state_of m) (after_event e (state_of m)) (event_left m e) out
unfolding after_event
event_allowed m g e out k = allowed m g (after_event e (state_of m)) (event_left m e) (ap (λ (q : Machine). event_left q e) (machine_back m g)) out k

-- ---- one call and then others

-- 64 bytes of room
abbrev room : List ℕ
room = replicate 64 0

enough : 64 ≤ length room
enough = let l = length-replicate {A = ℕ} 64 0 in omega arith

piece_first : (m : Machine) → Legal m → (piece : List ℕ) (h : List Event)
    → Covered (state_of (call m piece).machine) (bytes_then (drop (call m piece).taken piece) h) → Covered (state_of m) (bytes_then piece h)
piece_first m g piece h c =
    let l = piece_left m piece in
    covers (received piece h room (answer_for l) (over l.reply room) l.state.live l.state.loading (piece_allowed m g piece room enough) c.calls)

timeout_first : (m : Machine) → Legal m → (h : List Event) → Covered (state_of (step m timeout).machine) h → Covered (state_of m) (timeout ∷ h)
timeout_first m g h c =
    let l = event_left m timeout in
    covers (timed_out room (answer_for l) (over l.reply room) l.state.live l.state.loading (event_allowed m g timeout room enough) c.calls)

restart_first : (m : Machine) → Legal m → (h : List Event) → Covered (state_of (step m restart).machine) h → Covered (state_of m) (restart ∷ h)
restart_first m g h c =
    let l = event_left m restart in
    covers (restarts room (answer_for l) (over l.reply room) l.state.live l.state.loading (event_allowed m g restart room enough) c.calls)

-- a piece of one byte is taken whole, and leaves what the byte's step does
byte_first : (m : Machine) → Legal m → (b : ℕ) (h : List Event) → Covered (state_of (step m (byte b)).machine) h → Covered (state_of m) (byte b ∷ h)
unfolding call bytes_then
byte_first m g b h c = piece_first m g (b ∷ []) h (either (is_none (step m (byte b)).reply))
  where
    one : List ℕ → Called
    one reply = record { machine = (step m (byte b)).machine; taken = 1; reply = reply }

    either : (t : Bool) → let s = cond t (one []) (one (step m (byte b)).reply) in Covered (state_of s.machine) (bytes_then (drop s.taken (b ∷ [])) h)
    either true = c
    either false = c

-- ---- EVERY HISTORY CAN BE HANDED OVER

-- from a legal machine's state there are calls for all of it: one byte at a time, with 64 bytes of room
pub covered_from : (m : Machine) → Legal m → (h : List Event) → Covered (state_of m) h
covered_from m g [] = covers done
covered_from m g (byte b ∷ h) = byte_first m g b h (covered_from (step m (byte b)).machine (step_legal m (byte b) g) h)
covered_from m g (timeout ∷ h) = timeout_first m g h (covered_from (step m timeout).machine (step_legal m timeout g) h)
covered_from m g (restart ∷ h) = restart_first m g h (covered_from (step m restart).machine (step_legal m restart g) h)

-- and so from a fresh device
pub covered : (h : List Event) → Covered (state_of fresh) h
covered h = covered_from fresh fresh_legal h

-- NEVER STUCK: after any calls, with any pieces and any room, refused ones among them, what is left can be handed over
pub goes_on : (m : Machine) → Legal m → {h rest : List Event} {y : State} {said : List ℕ} → Calls (state_of m) h rest y said → Covered y rest
goes_on m g {h} {rest} {y} {said} c =
    let i = handed c m g refl in
    subst (λ (x : State). Covered x rest) (sym i.state_is) (covered_from (run m i.prefix).machine (run_legal m i.prefix g) rest)
