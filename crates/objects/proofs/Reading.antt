-- Reading an object: what the code knows at each of its steps.
use mathlib.Core.Path.{◌≡◌, refl, sym, ap, ◌∙◌}
use mathlib.Core.List.{List}
use Prim.Native.Nat.{ℕ, zero, suc, ◌+◌, ◌-◌, ◌≤◌, ◌<◌}
use native.Mathlib.Omega.{arith}
use lib.ListN.{length, take, drop, length-drop}
use borrow.Author.Tests.{eq-eqb, ne_eqb, lt-leb}
use Rattle.std.specs.Prelude.{Option, Some, None, Result, Ok, Err}
use Rattle.answer.specs.declared.refusal.Refusal.{Refusal}
use Rattle.answer.specs.declared.refusal.Refusal.TheVariants.{NoTag, NoLength, CutValue}
use Rattle.answer.specs.Pieces.{found}
use Rattle.answer.proofs.Parts.{rest_part}
use Rattle.answer.proofs.Found.{found_is, found_some, found_none}
use Rattle.objects.specs.declared.forms.Form.{Form}
use Rattle.objects.specs.declared.ObjectRead.{ObjectRead}
use Rattle.objects.specs.Tag.{tag_size}
use Rattle.objects.specs.LengthForm.{form_at, size_in, value_in}
use Rattle.objects.specs.Object.{header_size, value_size, object_refusal, object_size, read_of}
use Rattle.objects.specs.Within.{tag_within}
use Rattle.objects.proofs.LengthForms.{form_le}
use Rattle.objects.proofs.Objects.{Sound, sound_parts, sound_refusal, read_good, read_bad, size_good, size_bad, size_some}

-- ---- the steps of the code

module _ (xs : List ℕ) where
  pub tag_lost : (let o : Option ℕ = None in o) ≡ found (tag_size xs) → read_of xs ≡ Err NoTag
  unfolding object_refusal
  tag_lost e = read_bad xs NoTag (simp (eq-eqb (tag_size xs) 0 (found_none (tag_size xs) e)))

  -- from a tag of t bytes
  module _ (t : ℕ) (e : (let o : Option ℕ = Some t in o) ≡ found (tag_size xs)) where
    is : t ≡ tag_size xs
    is = sym (found_is (tag_size xs) t e)

    some : tag_size xs ≡ 0 → ⊥
    some z = found_some (tag_size xs) t e (is ∙ z)

    -- what `&input[tag..]` hands over
    there : (o : Option Form) → o ≡ form_at (take (length xs - t) (drop t xs)) → form_at (drop (tag_size xs) xs) ≡ o
    there o h = ap (λ (n : ℕ). form_at (drop n xs)) (sym is) ∙ sym (h ∙ ap form_at (rest_part xs t))

    pub tag_inside : t ≤ length xs
    tag_inside = let i = is in let l = tag_within xs in omega arith

    pub form_lost : (let o : Option Form = None in o) ≡ form_at (take (length xs - t) (drop t xs)) → read_of xs ≡ Err NoLength
    unfolding object_refusal
    form_lost h = read_bad xs NoLength (simp (ne_eqb (tag_size xs) 0 some, there None h))

    -- and a form after it
    module _ (f : Form) (h : (let o : Option Form = Some f in o) ≡ form_at (take (length xs - t) (drop t xs))) where
      pub header_le : t + f.size ≤ length xs
      header_le =
          let i = is in
          let l = tag_within xs in
          let m = form_le (drop t xs) in
          let s = ap size_in (h ∙ ap form_at (rest_part xs t)) in
          omega (arith, simp length-drop at m)

      pub value_cut : length xs - (t + f.size) < f.value → read_of xs ≡ Err CutValue
      unfolding object_refusal
      value_cut c =
          let i = is in
          let l = header_le in
          let m : length (drop (tag_size xs) xs) < f.size + f.value = simp length-drop (omega arith) in
          read_bad xs CutValue (simp (ne_eqb (tag_size xs) 0 some, there (Some f) h, lt-leb (f.size + f.value) (length (drop (tag_size xs) xs)) m))

      pub object_found : f.value ≤ length xs - (t + f.size) → read_of xs ≡ Ok (record { tag = t; header = t + f.size; whole = t + f.size + f.value })
      object_found c =
          let i = is in
          let l = header_le in
          let s = ap size_in (there (Some f) h) in
          let v = ap value_in (there (Some f) h) in
          let sound : Sound xs = record { tag = some; form = λ n. absurd (let no = sym (there (Some f) h) ∙ n in cc); fits = omega arith } in
          read_good xs (sound_refusal xs sound) ∙ lengths (sym is) s v
        where
          lengths : {a b c d p q : ℕ} → a ≡ b → c ≡ d → p ≡ q
              → ◌≡◌ {A = Result ObjectRead Refusal} (Ok (record { tag = a; header = a + c; whole = a + c + p })) (Ok (record { tag = b; header = b + d; whole = b + d + q }))
          lengths x y z = rw (x, y, z) refl

-- ---- an object that was read

-- the tag stands within the header, the header within the object, and the object within the bytes
pub record Nested (xs : List ℕ) (r : ObjectRead) : Type 0 where
  pub tag : r.tag ≤ r.header
  pub header : r.header ≤ r.whole
  pub whole : r.whole ≤ length xs

module _ (xs : List ℕ) (r : ObjectRead) (e : (let a : Result ObjectRead Refusal = Ok r in a) ≡ read_of xs) where
  pub read_right : object_refusal xs ≡ None
  read_right = cases (object_refusal xs) refl
    where
      cases : (o : Option Refusal) → object_refusal xs ≡ o → object_refusal xs ≡ None
      cases None i = i
      cases (Some w) i = absurd (let no = e ∙ read_bad xs w i in cc)

  pub read_is : r ≡ record { tag = tag_size xs; header = header_size xs; whole = header_size xs + value_size xs }
  read_is = let i = e ∙ read_good xs read_right in cc

  pub read_nested : Nested xs r
  read_nested =
      let i = read_is in
      let t : r.tag ≡ tag_size xs = ap (λ (x : ObjectRead). x.tag) i in
      let h : r.header ≡ header_size xs = ap (λ (x : ObjectRead). x.header) i in
      let w : r.whole ≡ header_size xs + value_size xs = ap (λ (x : ObjectRead). x.whole) i in
      let f = (sound_parts xs read_right).fits in
      record { tag = omega arith; header = omega arith; whole = omega arith }

  pub read_whole : r.whole ≡ object_size xs
  read_whole = ap (λ (x : ObjectRead). x.whole) read_is ∙ sym (size_good xs read_right)

pub read_refused : (xs : List ℕ) (e : Refusal) → (let a : Result ObjectRead Refusal = Err e in a) ≡ read_of xs → object_refusal xs ≡ Some e
read_refused xs e h = cases (object_refusal xs) refl
  where
    cases : (o : Option Refusal) → object_refusal xs ≡ o → object_refusal xs ≡ Some e
    cases None i = absurd (let no = h ∙ read_good xs i in cc)
    cases (Some w) i = let k = h ∙ read_bad xs w i in let q : e ≡ w = cc in i ∙ ap Some (sym q)

-- ---- and its size as the code tells it

pub size_found : (xs : List ℕ) (r : ObjectRead) → (let a : Result ObjectRead Refusal = Ok r in a) ≡ read_of xs → Some r.whole ≡ found (object_size xs)
size_found xs r e = cases (object_size xs) (read_whole xs r e) (size_some xs (read_right xs r e))
  where
    cases : (n : ℕ) → r.whole ≡ n → (n ≡ 0 → ⊥) → Some r.whole ≡ found n
    cases zero i h = absurd (h refl)
    cases (suc n) i h = ap Some i

pub size_lost : (xs : List ℕ) (e : Refusal) → (let a : Result ObjectRead Refusal = Err e in a) ≡ read_of xs → (let o : Option ℕ = None in o) ≡ found (object_size xs)
size_lost xs e h = ap found (sym (size_bad xs e (read_refused xs e h)))
