-- What the calls on an image promise: those of the device behind it, and a refused call leaves the image as it was, whatever its bytes.
use Rattle.std.specs.Prelude.{ℕ, zero, suc, ◌≡◌, List, [], length, Result, Ok, Err}
use Rattle.answer.specs.Answers.{over}
use Rattle.answer.specs.declared.refusal.Refusal.{Refusal}
use Rattle.answer.specs.Refusals.{number_of}
use Rattle.state.specs.declared.Device.{Device}
use Rattle.state.specs.State.{State, state_as}
use Rattle.state.specs.Sound.{refusal_of}
use Rattle.device.specs.Events.Event.{timeout, restart}
use Rattle.device.specs.Machine.{fresh}
use Rattle.device.specs.Between.{state_of}
use Rattle.device.specs.declared.Taken.{Taken as Done}
use Rattle.device.specs.Promise.{Received, Left, after_piece, after_event, unless, start_refusal}
use Rattle.image.specs.declared.Image.{Image}
use Rattle.image.specs.declared.Taken.{Taken}
use Rattle.image.specs.Image.{image_of, device_of}

-- the state that an image and two stores stand for
abbrev pub state_in : Image → List ℕ → List ℕ → State
state_in i live loading = state_as (device_of i) live loading

-- a call's answer for C: the refusal's number or 0, and nothing taken and written where it is refused
abbrev pub taken_of : Result Done Refusal → Taken
taken_of (Ok t) = record { refusal = 0; taken = t.taken; written = t.written }
taken_of (Err e) = record { refusal = number_of e; taken = 0; written = 0 }

abbrev pub IsTakenOf : Result Done Refusal → Taken → Type 0
IsTakenOf answer taken = taken ≡ taken_of answer

-- the image after a call, and the call's answer
pub record Imaged : Type 0 where
  pub image : Image
  pub answer : Taken

abbrev pub image_after : ℕ → Image → Device → Image
image_after zero i d = image_of d
image_after (suc n) i d = i

-- what is made of a device's answer
abbrev pub imaged_by : Image → Received → Imaged
imaged_by i g =
    record { image = image_after g.refusal i g.device; answer = record { refusal = g.refusal; taken = g.taken; written = g.written } }

-- and of what the call leaves
abbrev pub imaged_of : ℕ → Image → Left → Imaged
imaged_of n i left =
    record {
      image = image_after n i left.state.device;
      answer = record { refusal = n; taken = left.taken; written = length left.reply };
    }

pub record ImageGives (refusal : ℕ) (i : Image) (left : Left) (out : List ℕ) (r : Imaged) (out' live' loading' : List ℕ) : Type 0 where
  pub result : r ≡ imaged_of refusal i left
  pub said : out' ≡ over left.reply out
  pub live_is : live' ≡ left.state.live
  pub loading_is : loading' ≡ left.state.loading

-- refused by this number and unchanged, or what the call leaves
abbrev pub ImageAnswersBy : ℕ → Image → Left → List ℕ → List ℕ → List ℕ → Imaged → List ℕ → List ℕ → List ℕ → Type 0
ImageAnswersBy n i left out live loading r out' live' loading' = ImageGives n i (unless n (state_in i live loading) left) out r out' live' loading'

-- THE PROMISE of a call on an image, with the device's refusals 1, 2, 3
abbrev pub ImageAnswers : Image → Left → List ℕ → List ℕ → List ℕ → Imaged → List ℕ → List ℕ → List ℕ → Type 0
ImageAnswers i left out live loading r out' live' loading' = ImageAnswersBy (refusal_of (length out) (state_in i live loading)) i left out live loading r out' live' loading'

-- taking a piece of the line's bytes
abbrev pub ReceivesImage : Image → List ℕ → List ℕ → List ℕ → List ℕ → Imaged → List ℕ → List ℕ → List ℕ → Type 0
ReceivesImage i piece out live loading r out' live' loading' = ImageAnswers i (after_piece piece (state_in i live loading)) out live loading r out' live' loading'

-- a timeout
abbrev pub TimesOutImage : Image → List ℕ → List ℕ → List ℕ → Imaged → List ℕ → List ℕ → List ℕ → Type 0
TimesOutImage i out live loading r out' live' loading' = ImageAnswers i (after_event timeout (state_in i live loading)) out live loading r out' live' loading'

-- a restart
abbrev pub RestartsImage : Image → List ℕ → List ℕ → List ℕ → Imaged → List ℕ → List ℕ → List ℕ → Type 0
RestartsImage i out live loading r out' live' loading' = ImageAnswers i (after_event restart (state_in i live loading)) out live loading r out' live' loading'

-- starting leaves a fresh device, and replies nothing
abbrev pub started_left : Left
started_left = record { state = state_of fresh; taken = 0; reply = [] }

-- THE PROMISE of starting, which has no `out`: refusal 2 leaves the image that it was lent, whatever its bytes, and both stores
abbrev pub StartsImage : Image → List ℕ → List ℕ → Imaged → List ℕ → List ℕ → Type 0
StartsImage i live loading r live' loading' = ImageAnswersBy (start_refusal live loading) i started_left [] live loading r [] live' loading'
