-- Any sequence of the exported device calls that hands over a history, by what they promise: what crate history says of a device's calls (`Calls`), said of
-- an image in the caller's memory and the two stores that go with it.
use Rattle.std.specs.Prelude.{ℕ, ◌≡◌, List, [], ◌∷◌, ◌++◌, take, drop}
use Rattle.state.specs.State.{State}
use Rattle.device.specs.Events.{Event}
use Rattle.device.specs.Events.Event.{timeout, restart}
use Rattle.device.specs.Promise.{Left}
use Rattle.history.specs.Calls.{bytes_then, still_there}
use Rattle.image.specs.declared.Image.{Image}
use Rattle.image.specs.ImagePromise.{Imaged, state_in, ImageAnswers, StartsImage, ReceivesImage, TimesOutImage, RestartsImage}

-- what firmware keeps between calls: the image and both stores
pub record Board : Type 0 where
  pub image : Image
  pub live : List ℕ
  pub loading : List ℕ

abbrev pub board_as : Image → List ℕ → List ℕ → Board
board_as image live loading = record { image = image; live = live; loading = loading }

-- the state that they stand for
abbrev pub state_on : Board → State
state_on x = state_in x.image x.live x.loading

-- `ImageCalls x h rest y said`: exported calls that hand the history h to the board x, up to `rest`, leave y, and what they wrote, joined, is `said`.
-- Pieces, room and what is offered again are the caller's choice, as in `Calls`. A refused call may stand anywhere, one that was lent other stores too, and so
-- may an `abecs_start` that is refused
pub data ImageCalls : Board → List Event → List Event → Board → List ℕ → Type 0 where
  done : {x : Board} {h : List Event} → ImageCalls x h h x []
  received : {x y : Board} {rest : List Event} {said : List ℕ} (piece : List ℕ) (h : List Event) (out : List ℕ) (r : Imaged) (out' live' loading' : List ℕ)
      → ReceivesImage x.image piece out x.live x.loading r out' live' loading'
      → ImageCalls (board_as r.image live' loading') (bytes_then (drop r.answer.taken piece) h) rest y said
      → ImageCalls x (bytes_then piece h) rest y (take r.answer.written out' ++ said)
  timed_out : {x y : Board} {h rest : List Event} {said : List ℕ} (out : List ℕ) (r : Imaged) (out' live' loading' : List ℕ)
      → TimesOutImage x.image out x.live x.loading r out' live' loading'
      → ImageCalls (board_as r.image live' loading') (still_there r.answer.refusal timeout h) rest y said
      → ImageCalls x (timeout ∷ h) rest y (take r.answer.written out' ++ said)
  restarts : {x y : Board} {h rest : List Event} {said : List ℕ} (out : List ℕ) (r : Imaged) (out' live' loading' : List ℕ)
      → RestartsImage x.image out x.live x.loading r out' live' loading'
      → ImageCalls (board_as r.image live' loading') (still_there r.answer.refusal restart h) rest y said
      → ImageCalls x (restart ∷ h) rest y (take r.answer.written out' ++ said)
  refused_on : {x y : Board} {h rest : List Event} {said : List ℕ} (live loading : List ℕ) (left : Left) (out : List ℕ) (r : Imaged) (out' live' loading' : List ℕ)
      → ImageAnswers x.image left out live loading r out' live' loading' → (r.answer.refusal ≡ 0 → ⊥)
      → ImageCalls (board_as r.image x.live x.loading) h rest y said
      → ImageCalls x h rest y (take r.answer.written out' ++ said)
  start_refused : {x y : Board} {h rest : List Event} {said : List ℕ} (live loading : List ℕ) (r : Imaged) (live' loading' : List ℕ)
      → StartsImage x.image live loading r live' loading' → (r.answer.refusal ≡ 0 → ⊥)
      → ImageCalls (board_as r.image x.live x.loading) h rest y said
      → ImageCalls x h rest y said

-- exported calls that hand over all of a history: the board that they leave, and what they wrote, joined
pub record CoveredOn (x : Board) (h : List Event) : Type 0 where
  pub last : Board
  pub said : List ℕ
  pub calls : ImageCalls x h [] last said
