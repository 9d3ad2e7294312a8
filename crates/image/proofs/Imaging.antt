-- What the calls on an image give, from what the device's calls give: refused with the image as it was, or the image of what the call leaves.
use mathlib.Core.Path.{◌≡◌, refl, ap, subst, ◌∙◌}
use mathlib.Core.List.{List, []}
use Prim.Native.Nat.{ℕ, zero, suc}
use Rattle.state.specs.declared.Device.{Device}
use Rattle.state.specs.State.{State, state_as}
use Rattle.device.specs.Machine.{fresh}
use Rattle.device.specs.Between.{state_of}
use Rattle.device.specs.Promise.{Started, Received, Left, Gives, Answers, start_refusal, started_from, Starts}
use Rattle.image.specs.declared.Image.{Image}
use Rattle.image.specs.Image.{image_of, device_of}
use Rattle.image.specs.ImagePromise.{Imaged, state_in, image_after, imaged_by, ImageGives, ImageAnswersBy, ImageAnswers, started_left, StartsImage}

-- ---- the image after a call

-- refused: as it was
pub image_stays : (n : ℕ) (i : Image) (d : Device) → (n ≡ 0 → ⊥) → image_after n i d ≡ i
image_stays zero i d h = absurd (h refl)
image_stays (suc n) i d h = refl

-- not refused: of the device after it
pub image_goes : (n : ℕ) (i : Image) (d : Device) → n ≡ 0 → image_after n i d ≡ image_of d
image_goes n i d e = ap (λ (k : ℕ). image_after k i d) e

-- ---- the calls

gives : (n : ℕ) (i : Image) (left : Left) (out : List ℕ) (g : Received) (r : Imaged) (out' live' loading' : List ℕ) → Gives n left out g out' live' loading' → r ≡ imaged_by i g
    → ImageGives n i left out r out' live' loading'
gives n i left out g r out' live' loading' a e =
    record { result = e ∙ ap (imaged_by i) a.result; said = a.said; live_is = a.live_is; loading_is = a.loading_is }

-- THE CALL on an image, by the call of the device that was made of it
pub imaged : (left : State → Left) (i : Image) (d : Device) (out live loading : List ℕ) (g : Received) (r : Imaged) (out' live' loading' : List ℕ) → d ≡ device_of i
    → Answers (state_as d live loading) (left (state_as d live loading)) out g out' live' loading' → r ≡ imaged_by i g
    → ImageAnswers i (left (state_in i live loading)) out live loading r out' live' loading'
imaged left i d out live loading g r out' live' loading' e a f =
    gives _ i _ out g r out' live' loading' (subst (λ (k : Device). Answers (state_as k live loading) (left (state_as k live loading)) out g out' live' loading') e a) f
