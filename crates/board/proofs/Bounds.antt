-- A call stays within the piece and the buffer that it is lent, and gets on where there is a byte to take.
use mathlib.Core.Path.{◌≡◌, refl, sym, ap, ◌∙◌}
use mathlib.Core.List.{List, [], ◌∷◌}
use Prim.Native.Nat.{ℕ, zero, suc, ◌≤◌}
use native.Mathlib.Omega.{arith}
use lib.ListN.{length, drop, length-append}
use Rattle.std.specs.Prelude.{Result, Ok, Err, IfOk}
use Rattle.answer.specs.Answers.{over}
use Rattle.answer.specs.declared.refusal.Refusal.{Refusal}
use Rattle.state.specs.declared.Device.{Device}
use Rattle.state.specs.State.{State}
use Rattle.state.specs.Sound.{refusal_of}
use Rattle.device.specs.declared.Taken.{Taken}
use Rattle.device.specs.Between.{machine_of}
use Rattle.device.specs.Promise.{Received, Left, received, after_piece, unless, Gives, Answers}
use Rattle.device.proofs.Promises.{taken_within, some_taken}

-- a call writes within its buffer: what it says is laid over the buffer's start, and the buffer keeps its length
over_fits : (s l : List ℕ) → length (over s l) ≡ length l → length s ≤ length l
over_fits s l e = omega (arith, e, length-append s (drop (length s) l))

pub written_within : (x : State) (left : Left) (out : List ℕ) (r : Received) (out' live' loading' : List ℕ) → Answers x left out r out' live' loading' → length out' ≡ length out
    → r.written ≤ length out
written_within x left out r out' live' loading' g e =
    let reply = (unless (refusal_of (length out) x) x left).reply in
    let n : r.written ≡ length reply = ap {B = ℕ} (λ (q : Received). q.written) g.result in
    let h : length reply ≤ length out = over_fits reply out (sym (ap length g.said) ∙ e) in
    omega (arith, n, h)

-- a call that is not refused takes a byte of a piece that has one
takes : (k : ℕ) (x : State) (piece out : List ℕ) (r : Received) (out' live' loading' : List ℕ) → r.refusal ≡ 0
    → Gives k (unless k x (after_piece piece x)) out r out' live' loading' → 1 ≤ length piece → 1 ≤ r.taken
unfolding after_piece
takes zero x [] out r out' live' loading' e g h = absurd (omega (arith, h))
takes zero x (b ∷ bs) out r out' live' loading' e g h =
    let t : r.taken ≡ (unless zero x (after_piece (b ∷ bs) x)).taken = ap {B = ℕ} (λ (q : Received). q.taken) g.result in
    omega (arith, t, some_taken (machine_of x) b bs)
takes (suc k) x piece out r out' live' loading' e g h =
    let f : r.refusal ≡ suc k = ap {B = ℕ} (λ (q : Received). q.refusal) g.result in
    absurd (omega (arith, e, f))

-- what a call that is not refused tells of how far it went
pub goes_within : (x : State) (piece out : List ℕ) (device : Device) (result : Result Taken Refusal) (out' live' loading' : List ℕ)
    → Answers x (after_piece piece x) out (received device result) out' live' loading' → length out' ≡ length out
    → IfOk result (λ done. (done.taken ≤ length piece) × (done.written ≤ length out))
goes_within x piece out device (Ok done) out' live' loading' g e = (
  taken_within x piece out (received device (Ok done)) out' live' loading' g,
  written_within x (after_piece piece x) out (received device (Ok done)) out' live' loading' g e,
)
goes_within x piece out device (Err refusal) out' live' loading' g e = tt

pub gets_on : (x : State) (piece out : List ℕ) (device : Device) (result : Result Taken Refusal) (out' live' loading' : List ℕ)
    → Answers x (after_piece piece x) out (received device result) out' live' loading'
    → IfOk result (λ done. 1 ≤ length piece → 1 ≤ done.taken)
gets_on x piece out device (Ok done) out' live' loading' g =
    takes (refusal_of (length out) x) x piece out (received device (Ok done)) out' live' loading' refl g
gets_on x piece out device (Err refusal) out' live' loading' g = tt
