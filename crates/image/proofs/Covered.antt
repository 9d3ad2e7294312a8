-- There are such calls: every history can be handed over whole to a board that was started, by the exported calls.
use mathlib.Core.Path.{◌≡◌, refl, sym, ap, subst, ◌∙◌}
use mathlib.Core.List.{List}
use Prim.Native.Nat.{ℕ, zero, suc}
use native.Mathlib.Omega.{arith}
use Rattle.state.specs.declared.Device.{Device}
use Rattle.state.specs.State.{State, state_as}
use Rattle.device.specs.Events.{Event}
use Rattle.device.specs.Events.Event.{timeout, restart}
use Rattle.device.specs.Promise.{Received, Left, after_piece, after_event, unless, Gives, Answers, start_refusal}
use Rattle.history.specs.Calls.{Calls}
use Rattle.history.specs.Calls.Calls.{done as handedOver, received as receives, timed_out as timesOut, restarts as restartsSo, refused_on as refusesOn}
use Rattle.history.proofs.Covered as device
use Rattle.history.proofs.Theorems.{started_fresh}
use Rattle.image.specs.declared.Image.{Image}
use Rattle.image.specs.Image.{device_of}
use Rattle.image.specs.ImagePromise.{imaged_by, Imaged, state_in, StartsImage}
use Rattle.image.specs.ImageCalls.{Board, board_as, state_on, ImageCalls, CoveredOn}
use Rattle.image.specs.ImageCalls.ImageCalls.{done, received, timed_out, restarts, refused_on}
use Rattle.image.proofs.Imaging.{image_stays, image_goes, imaged}
use Rattle.image.proofs.Back.{image_back}
use Rattle.image.proofs.Demands.{started_in, starts_behind}

-- the image after a call stands for the device after it
device_after : (n : ℕ) (i : Image) (live loading : List ℕ) (left : Left) (out : List ℕ) (g : Received) (out' live' loading' : List ℕ)
    → Gives n (unless n (state_in i live loading) left) out g out' live' loading' → g.device ≡ device_of (imaged_by i g).image
device_after zero i live loading left out g out' live' loading' a =
    let z = ap {B = ℕ} (λ (t : Received). t.refusal) a.result in
    sym (ap device_of (image_goes g.refusal i g.device z) ∙ image_back g.device)
device_after (suc n) i live loading left out g out' live' loading' a =
    let z : g.refusal ≡ suc n = ap {B = ℕ} (λ (t : Received). t.refusal) a.result in
    let f : g.refusal ≡ 0 → ⊥ = λ e. omega (arith, z, e) in
    ap {B = Device} (λ (t : Received). t.device) a.result ∙ sym (ap device_of (image_stays g.refusal i g.device f))

-- exported calls that do what a device's calls do
record Done (b : Board) (h rest : List Event) (said : List ℕ) : Type 0 where
  last : Board
  calls : ImageCalls b h rest last said

-- the state after a call, on the board after it
on_board : (n : ℕ) (i : Image) (live loading : List ℕ) (left : Left) (out : List ℕ) (g : Received) (out' live' loading' x y : List ℕ)
    → Gives n (unless n (state_in i live loading) left) out g out' live' loading' → state_as g.device x y ≡ state_on (board_as (imaged_by i g).image x y)
on_board n i live loading left out g out' live' loading' x y a = ap (λ (d : Device). state_as d x y) (device_after n i live loading left out g out' live' loading' a)

exported : {x : State} {h rest : List Event} {y : State} {said : List ℕ} → Calls x h rest y said → (b : Board) → x ≡ state_on b → Done b h rest said
exported handedOver b e = record { last = b; calls = done }
exported (receives piece h out r out' live' loading' a c) b e =
    let k = subst (λ (s : State). Answers s (after_piece piece s) out r out' live' loading') e a in
    let d = exported c (board_as (imaged_by b.image r).image live' loading') (on_board _ b.image b.live b.loading _ out r out' live' loading' live' loading' k) in
    record {
      last = d.last;
      calls = received piece h out (imaged_by b.image r) out' live' loading'
          (imaged (after_piece piece) b.image (device_of b.image) out b.live b.loading r (imaged_by b.image r) out' live' loading' refl k refl) d.calls;
    }
exported (timesOut out r out' live' loading' a c) b e =
    let k = subst (λ (s : State). Answers s (after_event timeout s) out r out' live' loading') e a in
    let d = exported c (board_as (imaged_by b.image r).image live' loading') (on_board _ b.image b.live b.loading _ out r out' live' loading' live' loading' k) in
    record {
      last = d.last;
      calls = timed_out out (imaged_by b.image r) out' live' loading'
          (imaged (after_event timeout) b.image (device_of b.image) out b.live b.loading r (imaged_by b.image r) out' live' loading' refl k refl) d.calls;
    }
exported (restartsSo out r out' live' loading' a c) b e =
    let k = subst (λ (s : State). Answers s (after_event restart s) out r out' live' loading') e a in
    let d = exported c (board_as (imaged_by b.image r).image live' loading') (on_board _ b.image b.live b.loading _ out r out' live' loading' live' loading' k) in
    record {
      last = d.last;
      calls = restarts out (imaged_by b.image r) out' live' loading'
          (imaged (after_event restart) b.image (device_of b.image) out b.live b.loading r (imaged_by b.image r) out' live' loading' refl k refl) d.calls;
    }
exported (refusesOn {x = x} live loading left out r out' live' loading' a f c) b e =
    let k = subst (λ (s : State). Answers (state_as s.device live loading) left out r out' live' loading') e a in
    let s = on_board _ b.image live loading left out r out' live' loading' b.live b.loading k in
    let d = exported c (board_as (imaged_by b.image r).image b.live b.loading) (ap (λ (t : State). state_as r.device t.live t.loading) e ∙ s) in
    record {
      last = d.last;
      calls = refused_on live loading left out (imaged_by b.image r) out' live' loading'
          (imaged (λ _. left) b.image (device_of b.image) out live loading r (imaged_by b.image r) out' live' loading' refl k refl) f d.calls;
    }

-- EVERY HISTORY CAN BE HANDED OVER to a board that was started with good stores
pub covered : (i : Image) (live loading : List ℕ) (r : Imaged) (live' loading' : List ℕ) → StartsImage i live loading r live' loading' → r.answer.refusal ≡ 0
    → (h : List Event) → CoveredOn (board_as r.image live' loading') h
covered i live loading r live' loading' s z h =
    let (t, g) = starts_behind (start_refusal live loading) i live loading r live' loading' refl s z in
    let c = device.covered h in
    let d = exported c.calls (board_as r.image live' loading') (sym (started_fresh live loading (started_in r) live' loading' t z)) in
    record { last = d.last; said = c.said; calls = d.calls }
