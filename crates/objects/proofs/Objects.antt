-- One object: by the tests of the code, in its place, and its length.
use mathlib.Core.Path.{◌≡◌, refl, sym, ap, ◌∙◌}
use mathlib.Core.Bool.{Bool, true, false, cond}
use mathlib.Core.List.{List, ◌++◌}
use Prim.Native.Nat.{ℕ, ◌+◌, ◌-◌, ◌≤◌}
use native.Mathlib.Omega.{arith}
use lib.ListN.{length, take, drop, length-append, length-take, length-drop}
use lib.Seq.{drop-append-le, take-take}
use lib.Dec.{leb, eqb}
use borrow.Author.Tests.{ne_eqb, le-leb, leb-true, eqb-false}
use Rattle.std.specs.Prelude.{Option, Some, None, Ok, Err}
use Rattle.answer.specs.declared.refusal.Refusal.{Refusal}
use Rattle.answer.specs.declared.refusal.Refusal.TheVariants.{NoTag, CutValue}
use Rattle.objects.specs.declared.forms.Form.{Form}
use Rattle.objects.specs.Tag.{tag_size}
use Rattle.objects.specs.LengthForm.{form_of, form_at, size_in, value_in}
use Rattle.objects.specs.Object.{Object, object_of, header_size, value_size, form_refusal, object_refusal, whole_in, object_size, read_of, object_in}
use Rattle.answer.proofs.Parts.{drop_take}
use Rattle.objects.proofs.TagSizes.{tag_append, tag_take}
use Rattle.objects.specs.Within.{tag_within}
use Rattle.objects.proofs.LengthForms.{form_append, form_take}

-- ---- what an object has that nothing is wrong with

pub record Sound (xs : List ℕ) : Type 0 where
  pub tag : tag_size xs ≡ 0 → ⊥
  pub form : form_at (drop (tag_size xs) xs) ≡ None → ⊥
  pub fits : header_size xs + value_size xs ≤ length xs

pub sound_parts : (xs : List ℕ) → object_refusal xs ≡ None → Sound xs
unfolding object_refusal
sound_parts xs = cases (eqb (tag_size xs) 0) (form_at (drop (tag_size xs) xs)) refl refl
  where
    behind : (f : Form) (u : Bool) → eqb (tag_size xs) 0 ≡ false → form_at (drop (tag_size xs) xs) ≡ Some f → leb (f.size + f.value) (length (drop (tag_size xs) xs)) ≡ u
        → ◌≡◌ {A = Option Refusal} (cond u None (Some CutValue)) None → Sound xs
    behind f false e i g z = absurd cc
    behind f true e i g z =
        let s = ap size_in i in
        let v = ap value_in i in
        let t = tag_within xs in
        let l = leb-true (f.size + f.value) (length (drop (tag_size xs) xs)) g in
        record { tag = eqb-false (tag_size xs) 0 e; form = λ n. absurd (let no = sym i ∙ n in cc); fits = omega (arith, simp length-drop at l) }

    cases : (b : Bool) (o : Option Form) → eqb (tag_size xs) 0 ≡ b → form_at (drop (tag_size xs) xs) ≡ o
        → ◌≡◌ {A = Option Refusal} (cond b (Some NoTag) (form_refusal (length (drop (tag_size xs) xs)) o)) None → Sound xs
    cases true o e i z = absurd cc
    cases false None e i z = absurd cc
    cases false (Some f) e i z = behind f (leb (f.size + f.value) (length (drop (tag_size xs) xs))) e i refl z

pub sound_refusal : (xs : List ℕ) → Sound xs → object_refusal xs ≡ None
unfolding object_refusal
sound_refusal xs g = cases (form_at (drop (tag_size xs) xs)) refl
  where
    cases : (o : Option Form) → form_at (drop (tag_size xs) xs) ≡ o
        → ◌≡◌ {A = Option Refusal} (cond (eqb (tag_size xs) 0) (Some NoTag) (form_refusal (length (drop (tag_size xs) xs)) o)) None
    cases None i = absurd (g.form i)
    cases (Some f) i =
        let s = ap size_in i in
        let v = ap value_in i in
        let t = g.fits in
        let l : f.size + f.value ≤ length (drop (tag_size xs) xs) = simp length-drop (omega arith) in
        simp (ne_eqb (tag_size xs) 0 g.tag, le-leb (f.size + f.value) (length (drop (tag_size xs) xs)) l)

-- ---- what is read

module _ (xs : List ℕ) where
  pub read_good : object_refusal xs ≡ None → read_of xs ≡ Ok (record { tag = tag_size xs; header = header_size xs; whole = header_size xs + value_size xs })
  unfolding read_of
  read_good e = simp e

  pub read_bad : (e : Refusal) → object_refusal xs ≡ Some e → read_of xs ≡ Err e
  unfolding read_of
  read_bad e h = simp h

  pub size_good : object_refusal xs ≡ None → object_size xs ≡ header_size xs + value_size xs
  unfolding object_size
  size_good e = ap whole_in (read_good e)

  pub size_bad : (e : Refusal) → object_refusal xs ≡ Some e → object_size xs ≡ 0
  unfolding object_size
  size_bad e h = ap whole_in (read_bad e h)

  pub size_some : object_refusal xs ≡ None → object_size xs ≡ 0 → ⊥
  size_some e z =
      let g = sound_parts xs e in
      let n = size_good e in
      g.tag (omega arith)

  pub size_refusal : (object_size xs ≡ 0 → ⊥) → object_refusal xs ≡ None
  size_refusal h = cases (object_refusal xs) refl
    where
      cases : (o : Option Refusal) → object_refusal xs ≡ o → object_refusal xs ≡ None
      cases None e = e
      cases (Some r) e = absurd (h (size_bad r e))

-- ---- an object in its place

-- the object's two parts are those of another list
record Alike (xs ys : List ℕ) : Type 0 where
  tag : tag_size ys ≡ tag_size xs
  form : form_at (drop (tag_size xs) ys) ≡ form_at (drop (tag_size xs) xs)
  long : header_size xs + value_size xs ≤ length ys

alike_form : (xs ys : List ℕ) → Alike xs ys → form_at (drop (tag_size ys) ys) ≡ form_at (drop (tag_size xs) xs)
alike_form xs ys a = ap (λ (n : ℕ). form_at (drop n ys)) a.tag ∙ a.form

alike_header : (xs ys : List ℕ) → Alike xs ys → header_size ys ≡ header_size xs
alike_header xs ys a = rw (alike_form xs ys a, a.tag) refl

alike_good : (xs ys : List ℕ) → Sound xs → Alike xs ys → Sound ys
alike_good xs ys g a =
    let t = a.tag in
    let f = alike_form xs ys a in
    let s = ap size_in f in
    let v = ap value_in f in
    let l = a.long in
    record { tag = λ z. g.tag (sym t ∙ z); form = λ z. g.form (sym f ∙ z); fits = omega arith }

alike_size : (xs ys : List ℕ) → Sound xs → Alike xs ys → object_size ys ≡ object_size xs
alike_size xs ys g a =
    let f = alike_form xs ys a in
    let v : value_size ys ≡ value_size xs = ap value_in f in
    let h = alike_header xs ys a in
    size_good ys (sound_refusal ys (alike_good xs ys g a)) ∙ rw (h, v) (sym (size_good xs (sound_refusal xs g)))

alike_append : (xs ys : List ℕ) → Sound xs → Alike xs (xs ++ ys)
alike_append xs ys g =
    let l = tag_within xs in
    let fits = g.fits in
    record {
      tag = tag_append xs ys g.tag;
      form = ap form_at (drop-append-le (tag_size xs) xs ys l) ∙ form_append (drop (tag_size xs) xs) ys g.form;
      long = simp length-append (omega arith);
    }

-- what stands after an object does not change it
pub size_append : (xs ys : List ℕ) → (object_size xs ≡ 0 → ⊥) → object_size (xs ++ ys) ≡ object_size xs
size_append xs ys h = let g = sound_parts xs (size_refusal xs h) in alike_size xs (xs ++ ys) g (alike_append xs ys g)

-- nor does it need what stands after it
alike_take : (xs : List ℕ) → Sound xs → Alike xs (take (header_size xs + value_size xs) xs)
alike_take xs g =
    let t = tag_size xs in
    let f = size_in (form_at (drop t xs)) in
    let v = value_size xs in
    let n = header_size xs + value_size xs in
    let fits = g.fits in
    let m : f ≤ n - t = omega arith in
    record {
      tag = tag_take xs n (omega arith);
      form = ap form_at (sym (drop_take xs t n)) ∙ form_take (drop t xs) (n - t) g.form m;
      long = simp length-take (omega arith);
    }

object : {t t' v v' : List ℕ} → t ≡ t' → v ≡ v' → ◌≡◌ {A = Object} (record { tag = t; value = v }) (record { tag = t'; value = v' })
object p q = rw (p, q) refl

parts : (xs : List ℕ) (t h : ℕ) → t ≡ tag_size xs → h ≡ header_size xs → object_in xs ≡ record { tag = take t xs; value = drop h xs }
unfolding object_in
parts xs t h p q = object (ap (λ (i : ℕ). take i xs) (sym p)) (ap (λ (i : ℕ). drop i xs) (sym q))

module _ (xs : List ℕ) (e : object_refusal xs ≡ None) where
  g : Sound xs
  g = sound_parts xs e

  abbrev n : ℕ
  n = header_size xs + value_size xs

  size_is : object_size xs ≡ n
  size_is = size_good xs e

  pub size_take : object_size (take (object_size xs) xs) ≡ object_size xs
  size_take = ap (λ (k : ℕ). object_size (take k xs)) size_is ∙ alike_size xs (take n xs) g (alike_take xs g)

  -- the object that stands at the start of xs
  pub object_in_lem : object_in (take (object_size xs) xs) ≡ record { tag = take (tag_size xs) xs; value = take (value_size xs) (drop (header_size xs) xs) }
  object_in_lem = ap (λ (k : ℕ). object_in (take k xs)) size_is ∙ parts (take n xs) (tag_size xs) (header_size xs) (sym a.tag) (sym (alike_header xs (take n xs) a)) ∙ object w v
    where
      a : Alike xs (take n xs)
      a = alike_take xs g

      v : drop (header_size xs) (take n xs) ≡ take (value_size xs) (drop (header_size xs) xs)
      v = let k : n - header_size xs ≡ value_size xs = omega arith in sym (drop_take xs (header_size xs) n) ∙ ap (λ (i : ℕ). take i (drop (header_size xs) xs)) k

      w : take (tag_size xs) (take n xs) ≡ take (tag_size xs) xs
      w = take-take (tag_size xs) n xs (omega arith)

-- ---- an object's length

pub object_length : (tag value : List ℕ) → length (object_of tag value) ≡ length tag + length (form_of (length value)) + length value
unfolding object_of
object_length tag value = simp length-append (omega arith)
