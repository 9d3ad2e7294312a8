-- DEMAND 3 for firmware: what exported calls in any cut come to, from the start of a board, worked out from the history alone. Each such sequence is one of
-- the device's calls, on the state that image and stores stand for.
use mathlib.Core.Path.{◌≡◌, refl, sym, ap, subst, ◌∙◌}
use mathlib.Core.Bool.{true}
use mathlib.Core.List.{List, []}
use Prim.Native.Nat.{ℕ, zero, suc}
use native.Mathlib.Omega.{arith}
use lib.ListN.{length}
use Rattle.state.specs.State.{State}
use Rattle.state.specs.Sound.{refusal_of}
use Rattle.device.specs.Events.{Event}
use Rattle.device.specs.Machine.{fresh}
use Rattle.device.specs.Between.{state_of}
use Rattle.device.specs.Promise.{Started, Received, Left, unless, Gives, start_refusal, started_from, Starts}
use Rattle.history.specs.Calls.{Calls}
use Rattle.history.specs.Calls.Calls.{done as handedOver, received as receives, timed_out as timesOut, restarts as restartsSo, refused_on as refusesOn}
use Rattle.history.specs.Claims.{DemandThree}
use Rattle.history.proofs.Demands as device
use Rattle.image.specs.declared.Image.{Image}
use Rattle.image.specs.Image.{image_of, is_image, device_of}
use Rattle.image.specs.ImagePromise.{Imaged, state_in, ImageAnswersBy, started_left, StartsImage}
use Rattle.image.specs.ImageCalls.{Board, board_as, state_on, ImageCalls}
use Rattle.image.specs.ImageCalls.ImageCalls.{done, received, timed_out, restarts, refused_on, start_refused}
use Rattle.image.proofs.Back.{image_good, image_back, device_back}

-- ---- one call

-- the device's answer behind an image's
abbrev received_in : Imaged → Received
received_in r = record { device = device_of r.image; refusal = r.answer.refusal; taken = r.answer.taken; written = r.answer.written }

-- what is promised of a call on an image is promised of the device's call behind it
behind : (n : ℕ) (i : Image) (left : Left) (out live loading : List ℕ) (r : Imaged) (out' live' loading' : List ℕ)
    → ImageAnswersBy n i left out live loading r out' live' loading' → Gives n (unless n (state_in i live loading) left) out (received_in r) out' live' loading'
behind zero i left out live loading r out' live' loading' g =
    let b = image_back left.state.device in
    record {
      result = ap received_in g.result ∙ (λ k. record { device = b k; refusal = 0; taken = left.taken; written = length left.reply });
      said = g.said;
      live_is = g.live_is;
      loading_is = g.loading_is;
    }
behind (suc n) i left out live loading r out' live' loading' g =
    record { result = ap received_in g.result; said = g.said; live_is = g.live_is; loading_is = g.loading_is }

-- what stands where the image was is an image again
still_image : (n : ℕ) (i : Image) (left : Left) (out live loading : List ℕ) (r : Imaged) (out' live' loading' : List ℕ)
    → ImageAnswersBy n i left out live loading r out' live' loading' → is_image i ≡ true → is_image r.image ≡ true
still_image zero i left out live loading r out' live' loading' g e = ap (λ (t : Imaged). is_image t.image) g.result ∙ image_good left.state.device
still_image (suc n) i left out live loading r out' live' loading' g e = ap (λ (t : Imaged). is_image t.image) g.result ∙ e

-- a refused call leaves it as it was
image_stays : (n : ℕ) (i : Image) (left : Left) (out live loading : List ℕ) (r : Imaged) (out' live' loading' : List ℕ)
    → ImageAnswersBy n i left out live loading r out' live' loading' → (r.answer.refusal ≡ 0 → ⊥) → r.image ≡ i
image_stays zero i left out live loading r out' live' loading' g h = absurd (h (ap {B = ℕ} (λ (t : Imaged). t.answer.refusal) g.result))
image_stays (suc n) i left out live loading r out' live' loading' g h = ap {B = Image} (λ (t : Imaged). t.image) g.result

-- ---- any calls

-- they are calls of the device behind the image, and leave an image
abbrev Comes : Board → List Event → List Event → Board → List ℕ → Type 0
Comes x h rest y said = is_image x.image ≡ true → Calls (state_on x) h rest (state_on y) said × (is_image y.image ≡ true)

comes : {x : Board} {h rest : List Event} {y : Board} {said : List ℕ} → ImageCalls x h rest y said → Comes x h rest y said
comes done e = (handedOver, e)
comes (received {x = x} piece h out r out' live' loading' a c) e =
    let n = refusal_of (length out) (state_on x) in
    let d = comes c (still_image n x.image _ out x.live x.loading r out' live' loading' a e) in
    (receives piece h out (received_in r) out' live' loading' (behind n x.image _ out x.live x.loading r out' live' loading' a) d.0, d.1)
comes (timed_out {x = x} out r out' live' loading' a c) e =
    let n = refusal_of (length out) (state_on x) in
    let d = comes c (still_image n x.image _ out x.live x.loading r out' live' loading' a e) in
    (timesOut out (received_in r) out' live' loading' (behind n x.image _ out x.live x.loading r out' live' loading' a) d.0, d.1)
comes (restarts {x = x} out r out' live' loading' a c) e =
    let n = refusal_of (length out) (state_on x) in
    let d = comes c (still_image n x.image _ out x.live x.loading r out' live' loading' a e) in
    (restartsSo out (received_in r) out' live' loading' (behind n x.image _ out x.live x.loading r out' live' loading' a) d.0, d.1)
comes (refused_on {x = x} live loading left out r out' live' loading' a f c) e =
    let n = refusal_of (length out) (state_in x.image live loading) in
    let d = comes c (still_image n x.image left out live loading r out' live' loading' a e) in
    (refusesOn live loading left out (received_in r) out' live' loading' (behind n x.image left out live loading r out' live' loading' a) f d.0, d.1)
-- a refused start is no call of the device
comes (start_refused {x = x} {y = y} {h = h} {rest = rest} {said = said} live loading r live' loading' a f c) e =
    let s = image_stays (start_refusal live loading) x.image started_left [] live loading r [] live' loading' a f in
    let d = comes c (ap is_image s ∙ e) in
    (subst (λ (k : Image). Calls (state_in k x.live x.loading) h rest (state_on y) said) s d.0, d.1)

-- ---- the start

abbrev pub started_in : Imaged → Started
started_in r = record { device = device_of r.image; refusal = r.answer.refusal }

pub starts_behind : (n : ℕ) (i : Image) (live loading : List ℕ) (r : Imaged) (live' loading' : List ℕ) → n ≡ start_refusal live loading → ImageAnswersBy n i started_left [] live loading r [] live' loading'
    → r.answer.refusal ≡ 0 → Starts live loading (started_in r) live' loading' × (is_image r.image ≡ true)
starts_behind zero i live loading r live' loading' q g z =
    let b = image_back (state_of fresh).device in (
      record {
        result = ap started_in g.result ∙ (λ k. record { device = b k; refusal = q k });
        live_is = g.live_is ∙ ap (λ (n : ℕ). (started_from n live loading).live) q;
        loading_is = g.loading_is ∙ ap (λ (n : ℕ). (started_from n live loading).loading) q;
      },
      ap (λ (t : Imaged). is_image t.image) g.result ∙ image_good (state_of fresh).device,
    )
starts_behind (suc n) i live loading r live' loading' q g z = absurd (let e = sym (ap {B = ℕ} (λ (t : Imaged). t.answer.refusal) g.result) ∙ z in omega (arith, e))

-- ---- DEMAND 3

-- from a board that was started with good stores, whatever the exported calls: at each moment
pub demand_three : (i : Image) (live loading : List ℕ) (r : Imaged) (live' loading' : List ℕ) → StartsImage i live loading r live' loading' → r.answer.refusal ≡ 0
    → {h rest : List Event} {y : Board} {said : List ℕ} → ImageCalls (board_as r.image live' loading') h rest y said → DemandThree h rest (state_on y) said
demand_three i live loading r live' loading' s z c =
    let (t, g) = starts_behind (start_refusal live loading) i live loading r live' loading' refl s z in
    device.demand_three live loading (started_in r) live' loading' t z (comes c g).0

-- CUT: two ways of handing over one history leave one board, every byte of the image and of both stores, and say the same
pub demand_cut : (i : Image) (live loading : List ℕ) (r : Imaged) (live' loading' : List ℕ) → StartsImage i live loading r live' loading' → r.answer.refusal ≡ 0
    → (h : List Event) {y y' : Board} {said said' : List ℕ} → ImageCalls (board_as r.image live' loading') h [] y said → ImageCalls (board_as r.image live' loading') h [] y' said'
    → (y ≡ y') × (said ≡ said')
demand_cut i live loading r live' loading' s z h {y} {y'} a b =
    let (t, g) = starts_behind (start_refusal live loading) i live loading r live' loading' refl s z in
    let p = comes a g in
    let q = comes b g in
    let (e, f) = device.demand_cut live loading (started_in r) live' loading' t z h p.0 q.0 in
    let k = sym (device_back y.image p.1) ∙ ap (λ (x : State). image_of x.device) e ∙ device_back y'.image q.1 in
    ((λ j. board_as (k j) (e j).live (e j).loading), f)
