-- What the promises of the calls fix: one result each, and what is written and then read, or read and then written.
use mathlib.Core.Path.{◌≡◌, refl, sym, ap, ◌∙◌, subst}
use mathlib.Core.List.{List, ◌++◌, append_assoc, append-nil}
use Prim.Native.Nat.{ℕ, ◌+◌, ◌-◌, ◌≤◌}
use native.Mathlib.Omega.{arith}
use lib.ListN.{length, take, drop, length-append}
use lib.Seq.{length-take-le, take_at, drop_at}
use borrow.Author.Tests.{le-ltb}
use Rattle.std.specs.Prelude.{Option, None, Result, Ok}
use Rattle.answer.specs.declared.refusal.Refusal.{Refusal}
use Rattle.answer.specs.Answers.{Output, Gives, answer_of, over}
use Rattle.answer.specs.Pieces.{found}
use Rattle.answer.proofs.Promises.{gives_one, success}
use Rattle.objects.specs.declared.ObjectRead.{ObjectRead}
use Rattle.objects.specs.Tag.{tag_size}
use Rattle.objects.specs.LengthForm.{form_of}
use Rattle.objects.specs.Object.{object_of, write_object, header_size, value_size, object_refusal, object_size, read_of}
use Rattle.objects.specs.Claims.{AllBytes, Fit}
use Rattle.objects.specs.Within.{object_within}
use Rattle.objects.proofs.Objects.{size_good}
use Rattle.objects.proofs.Reading.{read_right, read_is}
use Rattle.objects.proofs.RoundTrip.{write_gives, fit_writes, written_read, read_written, read_fit}

-- ---- ONE RESULT: two results of a call that its promise allows for one entry are one

pub tag_size_one : (p : List ℕ) (r s : Option ℕ) → r ≡ found (tag_size p) → s ≡ found (tag_size p) → r ≡ s
tag_size_one p r s e f = e ∙ sym f

pub read_object_one : (input : List ℕ) (r s : Result ObjectRead Refusal) → r ≡ read_of input → s ≡ read_of input → r ≡ s
read_object_one input r s p q = p ∙ sym q

pub write_object_one : (tag value out : List ℕ) (r s : Result ℕ Refusal) (o o' : List ℕ) → Gives (write_object tag value) out r o → Gives (write_object tag value) out s o' → (r ≡ s) × (o ≡ o')
write_object_one tag value = gives_one (write_object tag value)

-- ---- WRITE, THEN READ: the lengths that are read tell the tag and the value apart

module _ (tag value out : List ℕ) (n : ℕ) (out' : List ℕ) (w : Gives (write_object tag value) out (Ok n) out') where
  given : (take n out' ≡ object_of tag value) × (n ≡ length (object_of tag value)) × Fit tag value
  given =
      let d = success (write_object tag value) out n out' w in
      let g = write_gives tag value d.given d.is in
      (d.bytes ∙ g.1, d.long ∙ ap length g.1, g.0)

  pub write_then_read : (s : Result ObjectRead Refusal) → s ≡ read_of (take n out')
      → s ≡ Ok (record { tag = length tag; header = length tag + length (form_of (length value)); whole = n })
  write_then_read s e =
      let g = given in
      e ∙ ap read_of (g.0 ∙ sym (append-nil (object_of tag value))) ∙ written_read tag value _ g.2
      ∙ ap (λ (k : ℕ). Ok (record { tag = length tag; header = length tag + length (form_of (length value)); whole = k })) (sym g.1)

  pub tag_written : take (length tag) (take n out') ≡ tag
  unfolding object_of
  tag_written = ap (take (length tag)) given.0 ∙ take_at tag (form_of (length value) ++ value) (length tag) refl

  pub value_written : drop (length tag + length (form_of (length value))) (take n out') ≡ value
  unfolding object_of
  value_written =
      let f = form_of (length value) in
      ap (drop (length tag + length f)) (given.0 ∙ sym (append_assoc tag f value)) ∙ drop_at (tag ++ f) value (length tag + length f) (length-append tag f)

-- ---- READ, THEN WRITE: the same bytes

module _ (input : List ℕ) (bytes : AllBytes input) (r : ObjectRead) (is : (let a : Result ObjectRead Refusal = Ok r in a) ≡ read_of input) where
  right : object_refusal input ≡ None
  right = read_right input r is

  good : r ≡ record { tag = tag_size input; header = header_size input; whole = header_size input + value_size input }
  good = read_is input r is

  tag_is : take r.tag input ≡ take (tag_size input) input
  tag_is = ap (λ (x : ObjectRead). take x.tag input) good

  value_is : take (r.whole - r.header) (drop r.header input) ≡ take (value_size input) (drop (header_size input) input)
  value_is =
      let h : r.header ≡ header_size input = ap (λ (x : ObjectRead). x.header) good in
      let w : r.whole ≡ header_size input + value_size input = ap (λ (x : ObjectRead). x.whole) good in
      let n : r.whole - r.header ≡ value_size input = omega arith in
      ap (λ (k : ℕ). take k (drop r.header input)) n ∙ ap (λ (k : ℕ). take (value_size input) (drop k input)) h

  whole_is : r.whole ≡ object_size input
  whole_is = ap (λ (x : ObjectRead). x.whole) good ∙ sym (size_good input right)

  writes : write_object (take r.tag input) (take (r.whole - r.header) (drop r.header input)) ≡ Ok (take r.whole input)
  writes =
      ap (λ (t : List ℕ). write_object t (take (r.whole - r.header) (drop r.header input))) tag_is ∙ ap (write_object (take (tag_size input) input)) value_is
      ∙ fit_writes (take (tag_size input) input) (take (value_size input) (drop (header_size input) input)) (read_fit input bytes right)
      ∙ ap Ok (read_written input bytes right ∙ ap (λ (n : ℕ). take n input) (sym whole_is))

  pub read_then_write : (out : List ℕ) (a : Result ℕ Refusal) (out' : List ℕ)
      → Gives (write_object (take r.tag input) (take (r.whole - r.header) (drop r.header input))) out a out' → r.whole ≤ length out
      → (a ≡ answer_of (Ok (take r.whole input))) × (out' ≡ over (take r.whole input) out)
  read_then_write out a out' g h =
      let l = object_within input in
      let q = whole_is in
      let n : length (take r.whole input) ≡ r.whole = length-take-le r.whole input (omega arith) in
      let t = le-ltb (length out) (length (take r.whole input)) (omega arith) in
      let w = subst (λ (x : Output). Gives x out a out') writes g in
      (w.answer ∙ rw t refl, w.bytes ∙ rw t refl)
