-- No reply is longer than 43 bytes, so that the room of 64 that a call asks for is always enough.
use mathlib.Core.Path.{◌≡◌, refl, ap}
use mathlib.Core.Bool.{Bool, true, false, cond}
use mathlib.Core.List.{List}
use Prim.Native.Nat.{ℕ, zero, suc, ◌≤◌}
use native.Mathlib.Omega.{arith}
use lib.ListN.{length, take, length-take}
use lib.Dec.{eqb}
use Rattle.packet.specs.Packet.{packet_of}
use Rattle.packet.proofs.Stuffing.{stuff_two, packet_long}
use Rattle.reception.specs.declared.Reception.{Reception}
use Rattle.reception.specs.declared.Reception.TheVariants.{Idle, InData, After13h, FirstCheck, SecondCheck}
use Rattle.execution.specs.Promise.{responded}
use Rattle.execution.proofs.Executing.{responded_short}
use Rattle.state.specs.State.{State, stored_in}
use Rattle.state.specs.Sound.{held_sound, refusal_of}
use Rattle.state.specs.Claims.{Arrays}
use Rattle.state.proofs.Accepting.{accepted, held_short, held_good}
use Rattle.device.specs.Machine.{good_packet}
use Rattle.device.specs.Promise.{Received, Left, after_piece, unless, Answers}
use Rattle.device.specs.Steps.{payload_in, held_payload, cancelled, resent, refused, ran, completed, replied_in}
use Rattle.device.proofs.Replies.{Known}
use Rattle.device.proofs.Leaving.{line_to, gathered_in, piece_asked, piece_silent}
use Rattle.device.proofs.Knowing.{known}

packet_42 : (p : List ℕ) → length p ≤ 19 → length (packet_of p) ≤ 42
packet_42 p h = omega (arith, stuff_two p, packet_long p)

held_42 : (x : State) → held_sound x.device.held ≡ true → length (packet_of (held_payload x.device.held)) ≤ 42
held_42 x e =
    let n = x.device.held.response.length in
    let p = x.device.held.response.payload in
    packet_42 (take n p) (omega (arith, held_short x.device.held e, length-take n p))

completed_43 : (x : State) (a b : ℕ) → length (completed x a b).reply ≤ 43
unfolding completed
completed_43 x a b = cases (good_packet x.device.spoiled (payload_in x.device) a b)
  where
    cases : (t : Bool) → length (cond t (ran x) (refused x)).reply ≤ 43
    cases true = let s = packet_42 (responded (payload_in x.device) (stored_in x)) (responded_short (payload_in x.device) (stored_in x)) in omega (arith, s)
    cases false = omega arith

idle_43 : (x : State) (b : ℕ) → held_sound x.device.held ≡ true → length (replied_in Idle x b).reply ≤ 43
idle_43 x b e = cases (eqb b 0x18)
  where
    cases : (t : Bool) → length (cond t (cancelled x) (resent x)).reply ≤ 43
    cases true = omega arith
    cases false = omega (arith, held_42 x e)

replied_43 : (k : Reception) (x : State) (b : ℕ) → held_sound x.device.held ≡ true → length (replied_in k x b).reply ≤ 43
replied_43 Idle x b e = idle_43 x b e
replied_43 InData x b e = omega arith
replied_43 After13h x b e = omega arith
replied_43 FirstCheck x b e = omega arith
replied_43 (SecondCheck a) x b e = completed_43 x a b

piece_43 : (x : State) (piece : List ℕ) → Known x → held_sound x.device.held ≡ true → length (after_piece piece x).reply ≤ 43
piece_43 x piece k h = cases (gathered_in x piece).asked refl
  where
    cases : (t : Bool) → (gathered_in x piece).asked ≡ t → length (after_piece piece x).reply ≤ 43
    cases true e =
        let g = gathered_in x piece in
        let n : length (after_piece piece x).reply ≡ length (replied_in g.line.state (line_to x g.line g.store) g.last).reply = ap (λ (l : Left). length l.reply) (piece_asked x piece k h e) in
        omega (arith, n, replied_43 g.line.state (line_to x g.line g.store) g.last h)
    cases false e =
        let n : length (after_piece piece x).reply ≡ 0 = ap (λ (l : Left). length l.reply) (piece_silent x piece k h e) in
        omega (arith, n)

-- A CALL WRITES AT MOST 43 BYTES
pub written_short : (x : State) (piece out : List ℕ) (r : Received) (out' live' loading' : List ℕ) → Arrays x.device
    → Answers x (after_piece piece x) out r out' live' loading' → r.written ≤ 43
written_short x piece out r out' live' loading' a g =
    let e : r.written ≡ length (unless (refusal_of (length out) x) x (after_piece piece x)).reply = ap {B = ℕ} (λ (q : Received). q.written) g.result in
    omega (arith, e, cases (refusal_of (length out) x) refl)
  where
    cases : (n : ℕ) → refusal_of (length out) x ≡ n → length (unless n x (after_piece piece x)).reply ≤ 43
    cases zero f = let q = accepted (length out) x f in piece_43 x piece (known x a q.sized q.is_sound) (held_good x q.is_sound)
    cases (suc n) f = omega arith
