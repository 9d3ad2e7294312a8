-- ONE RESULT: two results of a call that its promise allows for one entry are one.
use mathlib.Core.Path.{◌≡◌, sym, ◌∙◌}
use mathlib.Core.Bool.{Bool}
use mathlib.Core.List.{List, []}
use Prim.Native.Nat.{ℕ}
use Rattle.std.specs.Prelude.{Result}
use Rattle.answer.specs.declared.refusal.Refusal.{Refusal}
use Rattle.state.specs.declared.Device.{Device}
use Rattle.device.specs.declared.Taken.{Taken as Done}
use Rattle.device.specs.Promise.{Left, start_refusal}
use Rattle.image.specs.declared.Image.{Image}
use Rattle.image.specs.declared.Taken.{Taken}
use Rattle.image.specs.Image.{flag_of, IsImageOf, IsDeviceOf}
use Rattle.image.specs.ImagePromise.{Imaged, IsTakenOf, ImageAnswersBy, started_left, StartsImage, ReceivesImage, TimesOutImage, RestartsImage}

pub flag_one : (b : Bool) (r s : ℕ) → r ≡ flag_of b → s ≡ flag_of b → r ≡ s
flag_one b r s e f = e ∙ sym f

-- an image of a device, a device of an image, and a call's answer for C
pub image_of_one : (device : Device) (r s : Image) → IsImageOf device r → IsImageOf device s → r ≡ s
image_of_one device r s i j = i ∙ sym j

pub device_of_one : (image : Image) (r s : Device) → IsDeviceOf image r → IsDeviceOf image s → r ≡ s
device_of_one image r s i j = i ∙ sym j

pub taken_of_one : (answer : Result Done Refusal) (r s : Taken) → IsTakenOf answer r → IsTakenOf answer s → r ≡ s
taken_of_one answer r s i j = i ∙ sym j

-- ---- the image after a call with its answer, and every byte of `out` and of both stores

-- any call on an image, by any refusal
pub image_answers_one : (n : ℕ) (i : Image) (left : Left) (out live loading : List ℕ) (r s : Imaged) (a b c a' b' c' : List ℕ)
    → ImageAnswersBy n i left out live loading r a b c → ImageAnswersBy n i left out live loading s a' b' c' → (r ≡ s) × (a ≡ a') × (b ≡ b') × (c ≡ c')
image_answers_one n i left out live loading r s a b c a' b' c' g h =
    (g.result ∙ sym h.result, g.said ∙ sym h.said, g.live_is ∙ sym h.live_is, g.loading_is ∙ sym h.loading_is)

pub start_image_one : (i : Image) (live loading : List ℕ) (r s : Imaged) (a b a' b' : List ℕ)
    → StartsImage i live loading r a b → StartsImage i live loading s a' b' → (r ≡ s) × (a ≡ a') × (b ≡ b')
start_image_one i live loading r s a b a' b' g h =
    let e = image_answers_one (start_refusal live loading) i started_left [] live loading r s [] a b [] a' b' g h in
    (e.0, e.2, e.3)

pub receive_image_one : (i : Image) (piece out live loading : List ℕ) (r s : Imaged) (a b c a' b' c' : List ℕ)
    → ReceivesImage i piece out live loading r a b c → ReceivesImage i piece out live loading s a' b' c' → (r ≡ s) × (a ≡ a') × (b ≡ b') × (c ≡ c')
receive_image_one i piece out live loading = image_answers_one _ i _ out live loading

pub timeout_image_one : (i : Image) (out live loading : List ℕ) (r s : Imaged) (a b c a' b' c' : List ℕ)
    → TimesOutImage i out live loading r a b c → TimesOutImage i out live loading s a' b' c' → (r ≡ s) × (a ≡ a') × (b ≡ b') × (c ≡ c')
timeout_image_one i out live loading = image_answers_one _ i _ out live loading

pub restart_image_one : (i : Image) (out live loading : List ℕ) (r s : Imaged) (a b c a' b' c' : List ℕ)
    → RestartsImage i out live loading r a b c → RestartsImage i out live loading s a' b' c' → (r ≡ s) × (a ≡ a') × (b ≡ b') × (c ≡ c')
restart_image_one i out live loading = image_answers_one _ i _ out live loading
