-- What the writer comes to, by the tests that it makes.
use mathlib.Core.Path.{◌≡◌, refl, sym, ap, ◌∙◌}
use mathlib.Core.Bool.{Bool, true, false, cond}
use mathlib.Core.List.{List, ◌++◌, map, flatten}
use Prim.Native.Nat.{ℕ, ◌+◌, ◌*◌, ◌≤◌}
use native.Mathlib.Omega.{arith}
use lib.ListN.{length, length-append}
use lib.Dec.{eqb}
use borrow.Author.Tests.{le-ltb, eqb-true, eqb-false}
use Rattle.answer.specs.Answers.{over}
use Rattle.std.specs.Prelude.{Result, Ok, Err}
use Rattle.answer.specs.declared.refusal.Refusal.{Refusal}
use Rattle.answer.specs.declared.refusal.Refusal.TheVariants.{NoParameter, LongParameter}
use Rattle.message.specs.Steps.{unheld, measured}
use Rattle.answer.specs.Laid.{Puts}
use Rattle.answer.specs.Pieces.{every}
use Rattle.answer.proofs.Laid.{pasted_start, puts_long}
use Rattle.parameters.specs.Parameters.{parameters, whole_list}
use Rattle.message.specs.Blocks.{block_of, fill}
use Rattle.message.specs.Message.{head_good, message_of, short, message_sized, write_message}
use Rattle.message.proofs.Putting.{puts_join}
use Rattle.message.proofs.Blocks.{blocks_long}
use Rattle.message.proofs.Filling.{flatten_fill, held_whole, held_short}

-- ---- the writer

pub sized_good : (m : List ℕ) → length m ≤ 2048 → message_sized m ≡ Ok m
sized_good m h = rw (le-ltb 2048 (length m) h) refl

module _ (head : List ℕ) (response : Bool) (list : List ℕ) where
  write_broken : head_good response head ≡ true → whole_list list ≡ false → write_message head response list ≡ Err NoParameter
  unfolding write_message
  write_broken a b = rw (a, b) refl

  write_long : head_good response head ≡ true → whole_list list ≡ true → every short (parameters list) ≡ false → write_message head response list ≡ Err LongParameter
  unfolding write_message
  write_long a b c = rw (a, b, c) refl

  pub write_fit : head_good response head ≡ true → whole_list list ≡ true → every short (parameters list) ≡ true → write_message head response list ≡ message_sized (message_of head list)
  unfolding write_message
  write_fit a b c = rw (a, b, c) refl

  -- a list that its blocks do not hold to its end is broken, or has a parameter that is too long for a block
  unheld_refused : head_good response head ≡ true → (length (flatten (fill list)) ≡ length list → ⊥) → write_message head response list ≡ Err (unheld list)
  unheld_refused a h = cases (whole_list list) (every short (parameters list)) refl refl
    where
      cases : (b c : Bool) → whole_list list ≡ b → every short (parameters list) ≡ c → write_message head response list ≡ Err (unheld list)
      cases false c f g = write_broken a f ∙ ap (λ (t : Bool). Err (cond t LongParameter NoParameter)) (sym f)
      cases true false f g = write_long a f g ∙ ap (λ (t : Bool). Err (cond t LongParameter NoParameter)) (sym f)
      cases true true f g = absurd (h (ap (λ (l : List ℕ). length l) (flatten_fill list f g)))

  pub write_unheld : (e : Refusal) → head_good response head ≡ true → (let r : Result ℕ Refusal = Err e in r) ≡ measured list → write_message head response list ≡ Err e
  write_unheld e a = cases (eqb (length (flatten (fill list))) (length list)) refl
    where
      cases : (t : Bool) → eqb (length (flatten (fill list))) (length list) ≡ t → (let r : Result ℕ Refusal = Err e in r) ≡ cond t (Ok (length (fill list))) (Err (unheld list))
          → write_message head response list ≡ Err e
      cases true f m = absurd cc
      cases false f m =
          let g : unheld list ≡ e = cc in
          unheld_refused a (eqb-false (length (flatten (fill list))) (length list) f) ∙ ap (λ (x : Refusal). Err x) g

  pub write_held : (n : ℕ) → head_good response head ≡ true → (let r : Result ℕ Refusal = Ok n in r) ≡ measured list
      → (length (flatten (fill list)) ≡ length list) × (n ≡ length (fill list)) × (write_message head response list ≡ message_sized (message_of head list))
  write_held n a = cases (eqb (length (flatten (fill list))) (length list)) refl
    where
      cases : (t : Bool) → eqb (length (flatten (fill list))) (length list) ≡ t → (let r : Result ℕ Refusal = Ok n in r) ≡ cond t (Ok (length (fill list))) (Err (unheld list))
          → (length (flatten (fill list)) ≡ length list) × (n ≡ length (fill list)) × (write_message head response list ≡ message_sized (message_of head list))
      cases true f m =
          let h = eqb-true (length (flatten (fill list))) (length list) f in
          let k : n ≡ length (fill list) = cc in
          (h, k, write_fit a (held_whole list h) (held_short list h))
      cases false f m = absurd cc

-- ---- the bytes of a message

module _ (head list : List ℕ) where
  abbrev blocks : List ℕ
  blocks = flatten (map block_of (fill list))

  pub message_blocks : length (message_of head list) ≡ length head + length blocks
  unfolding message_of
  message_blocks = length-append head blocks

  pub message_long : length (flatten (fill list)) ≡ length list → length (message_of head list) ≡ length head + length list + 3 * length (fill list)
  message_long h = omega (arith, message_blocks, blocks_long (fill list), h)

  -- the head in the buffer leaves room for the blocks, where there is room for the message
  pub blocks_room : (out out₁ : List ℕ) (n : ℕ) → length (message_of head list) ≤ length out → Puts out 0 head n out₁ → n + length blocks ≤ length out₁
  blocks_room out out₁ n h u = omega (arith, message_blocks, u.next, puts_long out head 0 n out₁ (omega (arith, message_blocks)) u)

  -- the head, and the blocks after it, in the buffer
  pub message_put : (out out₁ out₂ : List ℕ) (n m : ℕ) → Puts out 0 head n out₁ → Puts out₁ n blocks m out₂ → out₂ ≡ over (message_of head list) out
  unfolding message_of
  message_put out out₁ out₂ n m u v = (puts_join out head blocks 0 n m out₁ out₂ (omega arith) u v).bytes ∙ pasted_start (head ++ blocks) out
