-- One object: written and then read it is the same object, read and then written it is the same bytes.
use mathlib.Core.Path.{◌≡◌, refl, sym, ap, ◌∙◌}
use mathlib.Core.Bool.{Bool, true, false, not, cond}
use mathlib.Core.List.{List, ◌++◌, append_assoc}
use Prim.Native.Nat.{ℕ, ◌+◌, ◌≤◌}
use native.Mathlib.Omega.{arith}
use native.Mathlib.Nat.{le_refl}
use lib.ListN.{length, take, drop, length-append, length-drop}
use lib.Seq.{take_at, drop_at, drop-drop, take-add, length-take-le}
use lib.Dec.{leb, eqb}
use borrow.Author.Tests.{leb-true, eqb-true, eqb-false, eq-eqb, ne_eqb, not-true}
use Rattle.std.specs.Prelude.{None, Result, Ok, Err}
use Rattle.answer.specs.declared.refusal.Refusal.{Refusal}
use Rattle.answer.specs.declared.refusal.Refusal.TheVariants.{NoTag, LongValue}
use Rattle.answer.proofs.Promises.{same_good, not_good}
use Rattle.objects.specs.declared.ObjectRead.{ObjectRead}
use Rattle.objects.specs.Tag.{tag_size, is_tag}
use Rattle.objects.specs.LengthForm.{form, form_of, form_at, size_in, value_in}
use Rattle.objects.specs.Object.{object_of, write_object, header_size, value_size, object_refusal, object_size, read_of, object_in}
use Rattle.objects.specs.Claims.{AllBytes, Fit}
use Rattle.answer.proofs.Parts.{and_left, and_right}
use Rattle.objects.proofs.TagSizes.{tag_append, tag_take}
use Rattle.objects.specs.Within.{tag_within}
use Rattle.objects.proofs.LengthForms.{form_read}
use Rattle.objects.proofs.Objects.{Sound, sound_parts, sound_refusal, read_good, size_good, object_length, object_in_lem}
use Rattle.objects.proofs.Writing.{write_good}
use Rattle.objects.proofs.OnlyForm.{bytes_drop, form_only}

pub tag_fit : (tag : List ℕ) → is_tag tag ≡ true → (tag_size tag ≡ length tag) × (tag_size tag ≡ 0 → ⊥)
tag_fit tag e =
    let n = eqb-false (length tag) 0 (not-true (eqb (length tag) 0) (and_left (not (eqb (length tag) 0)) (eqb (tag_size tag) (length tag)) e)) in
    let i = eqb-true (tag_size tag) (length tag) (and_right (not (eqb (length tag) 0)) (eqb (tag_size tag) (length tag)) e) in
    (i, λ z. n (sym i ∙ z))

-- what the writer gives, and for what
pub write_gives : (tag value s : List ℕ) → write_object tag value ≡ Ok s → Fit tag value × (s ≡ object_of tag value)
unfolding write_object
write_gives tag value s = cases (is_tag tag) (leb (length value) 65535) refl refl
  where
    cases : (a b : Bool) → is_tag tag ≡ a → leb (length value) 65535 ≡ b → cond a (cond b (Ok (object_of tag value)) (Err LongValue)) (Err NoTag) ≡ Ok s
        → Fit tag value × (s ≡ object_of tag value)
    cases false b e f z = absurd (not_good z)
    cases true false e f z = absurd (not_good z)
    cases true true e f z = (record { tag_is = (tag_fit tag e).0; some = (tag_fit tag e).1; small = leb-true (length value) 65535 f }, sym (same_good z))

pub fit_writes : (tag value : List ℕ) → Fit tag value → write_object tag value ≡ Ok (object_of tag value)
fit_writes tag value f =
    let t = f.tag_is in
    let n : length tag ≡ 0 → ⊥ = λ z. f.some (t ∙ z) in
    let e : is_tag tag ≡ true = simp (ne_eqb (length tag) 0 n, eq-eqb (tag_size tag) (length tag) t) in
    write_good tag value e f.small

-- ---- an object that was written, and what follows it

module _ (tag value more : List ℕ) (f : Fit tag value) where
  abbrev xs : List ℕ
  xs = object_of tag value ++ more

  regroup : xs ≡ tag ++ (form_of (length value) ++ (value ++ more))
  unfolding object_of
  regroup = simp append_assoc

  tag_there : tag_size xs ≡ length tag
  tag_there = ap tag_size regroup ∙ tag_append tag (form_of (length value) ++ (value ++ more)) f.some ∙ f.tag_is

  form_there : form_at (drop (tag_size xs) xs) ≡ form (length (form_of (length value))) (length value)
  form_there =
      ap (λ (n : ℕ). form_at (drop n xs)) tag_there ∙ ap (λ (l : List ℕ). form_at (drop (length tag) l)) regroup
      ∙ ap form_at (drop_at tag (form_of (length value) ++ (value ++ more)) (length tag) refl) ∙ form_read (length value) (value ++ more)

  header_there : header_size xs ≡ length tag + length (form_of (length value))
  header_there =
      let t = tag_there in
      let s : size_in (form_at (drop (tag_size xs) xs)) ≡ length (form_of (length value)) = ap size_in form_there in
      omega arith

  value_there : value_size xs ≡ length value
  value_there = ap value_in form_there

  whole_there : header_size xs + value_size xs ≡ length (object_of tag value)
  whole_there = let h = header_there in let v = value_there in let l = object_length tag value in omega arith

  good_there : Sound xs
  good_there =
      let t = tag_there in
      let s : size_in (form_at (drop (tag_size xs) xs)) ≡ length (form_of (length value)) = ap size_in form_there in
      let w = whole_there in
      let l = length-append (object_of tag value) more in
      record {
        tag = λ z. f.some (f.tag_is ∙ sym t ∙ z);
        form = λ z. absurd (let no = sym form_there ∙ z in cc);
        fits = omega arith;
      }

  -- WRITTEN, THEN READ: the lengths of an object that was written are read, whatever follows it
  pub written_read : read_of xs ≡ Ok (record { tag = length tag; header = length tag + length (form_of (length value)); whole = length (object_of tag value) })
  written_read = read_good xs (sound_refusal xs good_there) ∙ lengths tag_there header_there whole_there
    where
      lengths : {t t' h h' w w' : ℕ} → t ≡ t' → h ≡ h' → w ≡ w'
          → ◌≡◌ {A = Result ObjectRead Refusal} (Ok (record { tag = t; header = h; whole = w })) (Ok (record { tag = t'; header = h'; whole = w' }))
      lengths p q r = rw (p, q, r) refl

  pub size_there : object_size xs ≡ length (object_of tag value)
  size_there = size_good xs (sound_refusal xs good_there) ∙ whole_there

  -- and so are its tag and its value
  tag_back : take (tag_size xs) xs ≡ tag
  tag_back = ap (λ (n : ℕ). take n xs) tag_there ∙ ap (take (length tag)) regroup ∙ take_at tag (form_of (length value) ++ (value ++ more)) (length tag) refl

  value_back : take (value_size xs) (drop (header_size xs) xs) ≡ value
  value_back =
      let d : drop (header_size xs) xs ≡ value ++ more =
      ap (λ (n : ℕ). drop n xs) header_there ∙ sym (drop-drop (length (form_of (length value))) (length tag) xs)
      ∙ ap (λ (l : List ℕ). drop (length (form_of (length value))) (drop (length tag) l)) regroup
      ∙ ap (drop (length (form_of (length value)))) (drop_at tag (form_of (length value) ++ (value ++ more)) (length tag) refl)
      ∙ drop_at (form_of (length value)) (value ++ more) (length (form_of (length value))) refl in
      ap (λ (n : ℕ). take n (drop (header_size xs) xs)) value_there ∙ ap (take (length value)) d ∙ take_at value more (length value) refl

  pub written_object : object_in (object_of tag value) ≡ record { tag = tag; value = value }
  written_object =
      ap object_in (sym (ap (λ (n : ℕ). take n xs) size_there ∙ take_at (object_of tag value) more (length (object_of tag value)) refl))
      ∙ object_in_lem xs (sound_refusal xs good_there) ∙ rw (tag_back, value_back) refl

-- ---- an object that reads

module _ (xs : List ℕ) (bytes : AllBytes xs) (e : object_refusal xs ≡ None) where
  g : Sound xs
  g = sound_parts xs e

  only : (take (size_in (form_at (drop (tag_size xs) xs))) (drop (tag_size xs) xs) ≡ form_of (value_size xs)) × (value_size xs ≤ 65535)
  only = form_only (drop (tag_size xs) xs) (bytes_drop (tag_size xs) xs bytes) g.form

  value_length : length (take (value_size xs) (drop (header_size xs) xs)) ≡ value_size xs
  value_length = let f = g.fits in length-take-le (value_size xs) (drop (header_size xs) xs) (simp length-drop (omega arith))

  pub read_fit : Fit (take (tag_size xs) xs) (take (value_size xs) (drop (header_size xs) xs))
  read_fit =
      let t = tag_take xs (tag_size xs) (le_refl (tag_size xs)) in
      let l = length-take-le (tag_size xs) xs (tag_within xs) in
      let v = value_length in
      let o = only.1 in
      record { tag_is = t ∙ sym l; some = λ z. g.tag (sym t ∙ z); small = omega arith }

  -- READ, THEN WRITTEN: the tag and the value of an object that was read are written as the same bytes, since no length has two forms
  pub read_written : object_of (take (tag_size xs) xs) (take (value_size xs) (drop (header_size xs) xs)) ≡ take (object_size xs) xs
  unfolding object_of
  read_written =
      let t = tag_size xs in
      let f = size_in (form_at (drop (tag_size xs) xs)) in
      let v = value_size xs in
      ap (λ (n : ℕ). take t xs ++ (form_of n ++ take v (drop (header_size xs) xs))) value_length
      ∙ ap (λ (l : List ℕ). take t xs ++ (l ++ take v (drop (header_size xs) xs))) (sym only.0)
      ∙ sym (append_assoc (take t xs) (take f (drop t xs)) (take v (drop (header_size xs) xs)))
      ∙ ap (λ (l : List ℕ). l ++ take v (drop (header_size xs) xs)) (sym (take-add t f xs))
      ∙ sym (take-add (header_size xs) v xs)
      ∙ ap (λ (n : ℕ). take n xs) (sym (size_good xs e))
