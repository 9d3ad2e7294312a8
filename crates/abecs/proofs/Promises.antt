-- ONE RESULT: two results of a call with flags or with a lent image that its promise allows for one entry are one. The others have the promises of the
-- calls behind them, and the theorems of their crates. And A REFUSED CALL on a lent image changes nothing, and bytes that are no image are refused as 3.
use mathlib.Core.Path.{◌≡◌, sym, ap, ◌∙◌}
use mathlib.Core.Logic.{◌≢◌}
use mathlib.Core.Bool.{true, false}
use mathlib.Core.List.{List, []}
use Prim.Native.Nat.{ℕ, zero, suc, ◌≤◌}
use lib.ListN.{length}
use Rattle.std.specs.Prelude.{Result, Err}
use Rattle.answer.specs.declared.refusal.Refusal.{Refusal}
use Rattle.answer.specs.Answers.{Output}
use Rattle.objects.specs.declared.ObjectRead.{ObjectRead}
use Rattle.objects.specs.Object.{read_of}
use Rattle.tables.specs.declared.Extent.{Extent}
use Rattle.tables.specs.declared.Load.{Load}
use Rattle.state.specs.Sound.{both_sized, refusal_of}
use Rattle.device.specs.Promise.{Left, start_refusal}
use Rattle.image.specs.declared.Image.{Image}
use Rattle.image.specs.declared.Taken.{Taken}
use Rattle.image.specs.Image.{is_image}
use Rattle.image.specs.ImagePromise.{Imaged, state_in, ImageAnswersBy, ImageAnswers, started_left, StartsImage, ReceivesImage, TimesOutImage, RestartsImage}
use Rattle.image.specs.Claims.{Untouched}
use Rattle.image.proofs.Back.{bad_is_three}
use Rattle.image.proofs.Promises.{image_answers_one}
use Rattle.abecs.specs.declared.numbered.LoadOf.{LoadOf}
use Rattle.abecs.specs.declared.numbered.ClosedOf.{ClosedOf}
use Rattle.abecs.specs.declared.numbered.Answer.{Answer}
use Rattle.abecs.specs.declared.numbered.ObjectOf.{ObjectOf}
use Rattle.abecs.specs.Numbered.{Gives, object_as, IsAnswerOf, IsObjectOf}
use Rattle.abecs.specs.Flags.{IsLoadOf, AddsOf, ClosesOf}

-- two answers of a codec call that its promise allows are one, answer and buffer
pub gives_one : (output : Output) (out : List ℕ) (r s : Answer) (o o' : List ℕ) → Gives output out r o → Gives output out s o' → (r ≡ s) × (o ≡ o')
gives_one output out r s o o' g h = (g.answer ∙ sym h.answer, g.bytes ∙ sym h.bytes)

-- two answers that a refusal comes to are one
pub refused_one : (e : Refusal) (r s : Answer) → IsAnswerOf (Err e) r → IsAnswerOf (Err e) s → r ≡ s
refused_one e r s i j = i ∙ sym j

-- two answers, objects and loads that a conversion allows are one
pub answer_of_one : (a : Result ℕ Refusal) (r s : Answer) → IsAnswerOf a r → IsAnswerOf a s → r ≡ s
answer_of_one a r s i j = i ∙ sym j

pub object_of_one : (o : Result ObjectRead Refusal) (r s : ObjectOf) → IsObjectOf o r → IsObjectOf o s → r ≡ s
object_of_one o r s i j = i ∙ sym j

pub load_of_one : (load : Load) (r s : LoadOf) → IsLoadOf load r → IsLoadOf load s → r ≡ s
load_of_one load r s i j = i ∙ sym j

pub read_object_one : (input : List ℕ) (r s : ObjectOf) → r ≡ object_as (read_of input) → s ≡ object_as (read_of input) → r ≡ s
read_object_one input r s e f = e ∙ sym f

pub add_block_one : (network : ℕ) (load : Load) (block bytes : List ℕ) (r s : LoadOf) (o o' : List ℕ) → AddsOf network load block bytes r o → AddsOf network load block bytes s o' → (r ≡ s) × (o ≡ o')
add_block_one network load block bytes r s o o' g h = (g.answer ∙ sym h.answer, g.store ∙ sym h.store)

pub close_load_one : (network : ℕ) (extent : Extent) (load : Load) (live loading : List ℕ) (r s : ClosedOf) (l l' o o' : List ℕ)
    → ClosesOf network extent load live loading r l o → ClosesOf network extent load live loading s l' o' → (r ≡ s) × (l ≡ l') × (o ≡ o')
close_load_one network extent load live loading r s l l' o o' g h =
    (same (g.done ∙ sym h.done) (g.used ∙ sym h.used) (g.records ∙ sym h.records), g.store ∙ sym h.store, g.zeroed ∙ sym h.zeroed)
  where
    same : r.done ≡ s.done → r.used ≡ s.used → r.records ≡ s.records → r ≡ s
    same a b c = λ i. record { done = a i; used = b i; records = c i }

-- ---- the device: what stands where the image was lent, the answer, and every byte of `out` and of both stores

-- an image and an answer, apart
apart : (i j : Image) (r s : Taken) → ◌≡◌ {A = Imaged} (record { image = i; answer = r }) (record { image = j; answer = s }) → (i ≡ j) × (r ≡ s)
apart i j r s e = (ap (λ (t : Imaged). t.image) e, ap (λ (t : Imaged). t.answer) e)

-- any call on a lent image, by any refusal
answers_one : (n : ℕ) (i : Image) (left : Left) (out live loading : List ℕ) (j k : Image) (r s : Taken) (a b c a' b' c' : List ℕ)
    → ImageAnswersBy n i left out live loading (record { image = j; answer = r }) a b c → ImageAnswersBy n i left out live loading (record { image = k; answer = s }) a' b' c'
    → ((j ≡ k) × (r ≡ s)) × (a ≡ a') × (b ≡ b') × (c ≡ c')
answers_one n i left out live loading j k r s a b c a' b' c' g h =
    let e = image_answers_one n i left out live loading (record { image = j; answer = r }) (record { image = k; answer = s }) a b c a' b' c' g h in
    (apart j k r s e.0, e.1, e.2, e.3)

pub start_one : (i : Image) (live loading : List ℕ) (j k : Image) (r s : Taken) (a b a' b' : List ℕ)
    → StartsImage i live loading (record { image = j; answer = r }) a b → StartsImage i live loading (record { image = k; answer = s }) a' b'
    → ((j ≡ k) × (r ≡ s)) × (a ≡ a') × (b ≡ b')
start_one i live loading j k r s a b a' b' g h =
    let e = answers_one (start_refusal live loading) i started_left [] live loading j k r s [] a b [] a' b' g h in
    (e.0, e.2, e.3)

pub receive_one : (i : Image) (piece out live loading : List ℕ) (j k : Image) (r s : Taken) (a b c a' b' c' : List ℕ)
    → ReceivesImage i piece out live loading (record { image = j; answer = r }) a b c → ReceivesImage i piece out live loading (record { image = k; answer = s }) a' b' c'
    → ((j ≡ k) × (r ≡ s)) × (a ≡ a') × (b ≡ b') × (c ≡ c')
receive_one i piece out live loading = answers_one _ i _ out live loading

pub timeout_one : (i : Image) (out live loading : List ℕ) (j k : Image) (r s : Taken) (a b c a' b' c' : List ℕ)
    → TimesOutImage i out live loading (record { image = j; answer = r }) a b c → TimesOutImage i out live loading (record { image = k; answer = s }) a' b' c'
    → ((j ≡ k) × (r ≡ s)) × (a ≡ a') × (b ≡ b') × (c ≡ c')
timeout_one i out live loading = answers_one _ i _ out live loading

pub restart_one : (i : Image) (out live loading : List ℕ) (j k : Image) (r s : Taken) (a b c a' b' c' : List ℕ)
    → RestartsImage i out live loading (record { image = j; answer = r }) a b c → RestartsImage i out live loading (record { image = k; answer = s }) a' b' c'
    → ((j ≡ k) × (r ≡ s)) × (a ≡ a') × (b ≡ b') × (c ≡ c')
restart_one i out live loading = answers_one _ i _ out live loading

-- ---- a refused call on a lent image

-- A REFUSED CALL changes nothing, whatever refuses it and whatever it would have left
untouched : (n : ℕ) (i : Image) (left : Left) (out live loading : List ℕ) (j : Image) (r : Taken) (a b c : List ℕ) → r.refusal ≢ 0
    → ImageAnswersBy n i left out live loading (record { image = j; answer = r }) a b c → Untouched i out live loading j r a b c
untouched zero i left out live loading j r a b c h g = absurd (h (ap {B = ℕ} (λ (t : Imaged). t.answer.refusal) g.result))
untouched (suc n) i left out live loading j r a b c h g = record {
  image_stays = ap {B = Image} (λ (t : Imaged). t.image) g.result;
  none_taken = ap {B = ℕ} (λ (t : Imaged). t.answer.taken) g.result;
  none_written = ap {B = ℕ} (λ (t : Imaged). t.answer.written) g.result;
  out_stays = g.said;
  live_stays = g.live_is;
  loading_stays = g.loading_is;
}

-- `abecs_receive`, `abecs_timeout` and `abecs_restart`
pub refused_untouched : (i : Image) (left : Left) (out live loading : List ℕ) (j : Image) (r : Taken) (a b c : List ℕ) → r.refusal ≢ 0
    → ImageAnswers i left out live loading (record { image = j; answer = r }) a b c → Untouched i out live loading j r a b c
refused_untouched i left out live loading = untouched (refusal_of (length out) (state_in i live loading)) i left out live loading

-- and `abecs_start`, which has no `out`
pub refused_start_untouched : (i : Image) (live loading : List ℕ) (j : Image) (r : Taken) (b c : List ℕ) → r.refusal ≢ 0
    → StartsImage i live loading (record { image = j; answer = r }) b c → Untouched i [] live loading j r [] b c
refused_start_untouched i live loading j r b c = untouched (start_refusal live loading) i started_left [] live loading j r [] b c

-- BYTES THAT ARE NO IMAGE are refused as 3 where the room and both sizes are right
pub bad_image_refused : (i : Image) (left : Left) (out live loading : List ℕ) (j : Image) (r : Taken) (a b c : List ℕ) → is_image i ≡ false → 64 ≤ length out → both_sized live loading ≡ true
    → ImageAnswers i left out live loading (record { image = j; answer = r }) a b c → r.refusal ≡ 3
bad_image_refused i left out live loading j r a b c e k s g =
    ap {B = ℕ} (λ (t : Imaged). t.answer.refusal) g.result ∙ bad_is_three i (length out) live loading e k s
