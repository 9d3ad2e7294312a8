-- What the promises fix: two results of a call that its promise allows for one entry are one.
use mathlib.Core.Path.{◌≡◌, sym, ap, ◌∙◌}
use mathlib.Core.List.{List}
use Prim.Native.Nat.{ℕ}
use Rattle.std.specs.Prelude.{Result, Ok, Err}
use Rattle.answer.specs.declared.refusal.Refusal.{Refusal}
use Rattle.answer.proofs.Promises.{some_number, same_number}
use Rattle.state.specs.declared.Device.{Device}
use Rattle.state.specs.State.{State}
use Rattle.device.specs.declared.Taken.{Taken}
use Rattle.device.specs.Machine.{fresh}
use Rattle.device.specs.Between.{state_of}
use Rattle.device.specs.Promise.{Received, Left, received, Answers}
use Rattle.device.proofs.Promises.{answers_one}
use Rattle.board.specs.declared.Board.{Board}
use Rattle.board.specs.Board.{state_on}

abbrev taken_as : ℕ → ℕ → Taken
taken_as taken written = record { taken = taken; written = written }

-- the answer in numbers tells the answer
same_answer : (d e : Device) (r q : Result Taken Refusal) → received d r ≡ received e q → r ≡ q
same_answer d e (Ok done) (Ok other) h =
    ap Ok (ap (λ (x : Received). taken_as x.taken x.written) h)
same_answer d e (Ok done) (Err refusal) h = absurd (some_number refusal (sym (ap {B = ℕ} (λ (x : Received). x.refusal) h)))
same_answer d e (Err refusal) (Ok done) h = absurd (some_number refusal (ap {B = ℕ} (λ (x : Received). x.refusal) h))
same_answer d e (Err refusal) (Err other) h = ap Err (same_number refusal other (ap {B = ℕ} (λ (x : Received). x.refusal) h))

abbrev board_as : State → Board
board_as x = record { device = x.device; live = x.live; loading = x.loading }

-- `Board::new`
pub new_one : (a b : Board) → state_on a ≡ state_of fresh → state_on b ≡ state_of fresh → a ≡ b
new_one a b e f = ap board_as (e ∙ sym f)

-- `Board::receive`, `Board::timeout` and `Board::restart`: the answer, the board, and every byte of `out`
pub calls_one : (x : State) (left : Left) (out : List ℕ) (r q : Result Taken Refusal) (a b : Board) (o p : List ℕ)
    → Answers x left out (received a.device r) o a.live a.loading → Answers x left out (received b.device q) p b.live b.loading
    → (r ≡ q) × (a ≡ b) × (o ≡ p)
calls_one x left out r q a b o p g h =
    let one = answers_one x left out (received a.device r) (received b.device q) o a.live a.loading p b.live b.loading g h in
    let d : a.device ≡ b.device = same_device r q one.0 in
    (same_answer a.device b.device r q one.0, λ i. record { device = d i; live = one.2 i; loading = one.3 i }, one.1)
  where
    same_device : (r q : Result Taken Refusal) → received a.device r ≡ received b.device q → a.device ≡ b.device
    same_device (Ok done) (Ok other) e = ap {B = Device} (λ (x : Received). x.device) e
    same_device (Ok done) (Err other) e = ap {B = Device} (λ (x : Received). x.device) e
    same_device (Err done) (Ok other) e = ap {B = Device} (λ (x : Received). x.device) e
    same_device (Err done) (Err other) e = ap {B = Device} (λ (x : Received). x.device) e
