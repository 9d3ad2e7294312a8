-- Writing an object: its three parts put next to one another, and what the writer gives.
use mathlib.Core.Path.{◌≡◌, ap, ◌∙◌}
use mathlib.Core.Bool.{true}
use mathlib.Core.List.{List, ◌++◌, append_assoc}
use Prim.Native.Nat.{ℕ, ◌+◌, ◌≤◌}
use native.Mathlib.Omega.{arith}
use lib.ListN.{length, length-append}
use borrow.Author.Tests.{le-leb}
use Rattle.std.specs.Prelude.{Ok}
use Rattle.answer.specs.Answers.{Gives}
use Rattle.answer.specs.Laid.{pasted, Puts, PutIf}
use Rattle.answer.proofs.Laws.{gives_as, gives_good}
use Rattle.answer.proofs.Laid.{put_fits, pasted_length, pasted_start, pasted_join}
use Rattle.objects.specs.Tag.{is_tag}
use Rattle.objects.specs.LengthForm.{form_of}
use Rattle.objects.specs.Object.{object_of, write_object}
use Rattle.objects.proofs.Objects.{object_length}

-- what is put next to something that was put
pub puts_join : (out : List ℕ) (at : ℕ) (s t : List ℕ) (p : ℕ) (o₁ : List ℕ) (q : ℕ) (o₂ : List ℕ)
    → at + length s + length t ≤ length out → Puts out at s p o₁ → PutIf o₁ p t q o₂ → Puts out at (s ++ t) q o₂
puts_join out at s t p o₁ q o₂ h a b =
    let e = a.next in
    let l : length o₁ ≡ length out = ap length a.bytes ∙ pasted_length out at s (omega arith) in
    let c = put_fits o₁ p t q o₂ (omega arith) b in
    let f = c.next in
    record {
      bytes = c.bytes ∙ ap (λ (n : ℕ). pasted o₁ n t) e ∙ ap (λ (x : List ℕ). pasted x (at + length s) t) a.bytes ∙ pasted_join out at s t (omega arith);
      next = simp length-append (omega arith);
    }

-- ---- the writer, by its tests

module _ (tag value : List ℕ) where
  pub write_good : is_tag tag ≡ true → length value ≤ 65535 → write_object tag value ≡ Ok (object_of tag value)
  unfolding write_object
  write_good e h = simp (e, le-leb (length value) 65535 h)

  -- tag, length form and value, at any place with room for them
  pub puts_object : (out : List ℕ) (at p : ℕ) (o₁ : List ℕ) (q : ℕ) (o₂ : List ℕ) (r : ℕ) (o₃ : List ℕ) → at + length (object_of tag value) ≤ length out
      → PutIf out at tag p o₁ → PutIf o₁ p (form_of (length value)) q o₂ → PutIf o₂ q value r o₃ → Puts out at (object_of tag value) r o₃
  unfolding object_of
  puts_object out at p o₁ q o₂ r o₃ fits a b c =
      let l = object_length tag value in
      let n = length-append tag (form_of (length value)) in
      let first = put_fits out at tag p o₁ (omega arith) a in
      let two = puts_join out at tag (form_of (length value)) p o₁ q o₂ (omega arith) first b in
      let three = puts_join out at (tag ++ form_of (length value)) value q o₂ r o₃ (omega arith) two c in
      rw append_assoc at three

  pub writes_object : (out : List ℕ) (p : ℕ) (o₁ : List ℕ) (q : ℕ) (o₂ : List ℕ) (r : ℕ) (o₃ : List ℕ)
      → is_tag tag ≡ true → length value ≤ 65535 → length (object_of tag value) ≤ length out
      → PutIf out 0 tag p o₁ → PutIf o₁ p (form_of (length value)) q o₂ → PutIf o₂ q value r o₃ → Gives (write_object tag value) out (Ok r) o₃
  writes_object out p o₁ q o₂ r o₃ t v fits a b c =
      let u = puts_object out 0 p o₁ q o₂ r o₃ (omega arith) a b c in
      let n = u.next in
      let e : r ≡ length (object_of tag value) = omega arith in
      gives_as out o₃ (Ok r) (write_good t v) (gives_good (object_of tag value) out o₃ (Ok r) fits (ap Ok e) (u.bytes ∙ pasted_start (object_of tag value) out))
