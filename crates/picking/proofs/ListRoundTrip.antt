-- Lists of objects and tag lists: written and then read they are the same list, read and then written the same bytes.
use mathlib.Core.Path.{◌≡◌, refl, sym, ap, ◌∙◌, subst}
use mathlib.Core.List.{List, [], ◌∷◌, ◌++◌, map, flatten, append-nil}
use Prim.Native.Nat.{ℕ}
use native.Mathlib.Omega.{arith}
use lib.ListN.{length, take, drop}
use lib.Seq.{take_all}
use borrow.Author.Tests.{eq-eqb, ne_eqb}
use Rattle.std.specs.Prelude.{None}
use Rattle.answer.specs.Pieces.{pieces, rest}
use Rattle.answer.specs.Claims.{AllPieces}
use Rattle.answer.proofs.Pieces.{flatten_pieces, pieces_flatten, rest_flatten, all_pieces}
use Rattle.objects.specs.Tag.{tag_size}
use Rattle.objects.specs.Object.{Object, object_of, header_size, value_size, object_refusal, object_size, object_in}
use Rattle.objects.specs.Claims.{AllBytes, Fit}
use Rattle.objects.specs.Within.{tag_within, object_within}
use Rattle.objects.proofs.LengthForms.{form_some}
use Rattle.objects.proofs.Objects.{size_refusal, object_length, object_in_lem}
use Rattle.objects.proofs.OnlyForm.{bytes_left, bytes_right}
use Rattle.objects.proofs.RoundTrip.{tag_fit, write_gives, fit_writes, size_there, written_object, read_fit, read_written}
use Rattle.picking.specs.Lists.{fault_in, objects_of, objects_refusal, tags_of, tags_refusal, tag_refusal, written}
use Rattle.picking.specs.Claims.{object_bytes, Writable, AllWritable, AllTags}
use Rattle.picking.proofs.Lists.{tag_sizes, object_sizes, tags_whole, objects_whole}

-- ---- lists of objects

written_flat : (os : List Object) → written os ≡ flatten (map object_bytes os)
unfolding flatten
written_flat [] = refl
written_flat (o ∷ os) = ap (λ (l : List ℕ). object_bytes o ++ l) (written_flat os)

fit : (o : Object) → Writable o → Fit o.tag o.value
fit o w = (write_gives o.tag o.value (object_bytes o) w).0

one_piece : (tag value : List ℕ) → Fit tag value → object_size (object_of tag value) ≡ length (object_of tag value)
one_piece tag value f = ap object_size (sym (append-nil (object_of tag value))) ∙ size_there tag value [] f

all_written : (os : List Object) → AllWritable os → AllPieces object_size (map object_bytes os)
all_written [] a = tt
all_written (o ∷ os) a =
    let f = fit o a.0 in
    let l = object_length o.tag o.value in
    let s = form_some (length o.value) in
    (one_piece o.tag o.value f, (λ z. s (omega arith)), all_written os a.1)

objects_back : (os : List Object) → AllWritable os → map object_in (map object_bytes os) ≡ os
objects_back [] a = refl
objects_back (o ∷ os) a = rw (written_object o.tag o.value [] (fit o a.0), objects_back os a.1) refl

-- WRITTEN, THEN READ: a list of objects is the same list, with nothing wrong
pub list_written_read : (os : List Object) → AllWritable os → (objects_of (written os) ≡ os) × (objects_refusal (written os) ≡ None)
list_written_read os a = (
  ap (map object_in) (ap (pieces object_size) (written_flat os) ∙ pieces_flatten object_size object_sizes (map object_bytes os) (all_written os a)) ∙ objects_back os a,
  ap (λ (l : List ℕ). fault_in object_refusal (rest object_size l)) (written_flat os) ∙ ap (fault_in object_refusal) (rest_flatten object_size object_sizes (map object_bytes os) (all_written os a)),
)

-- a piece is the bytes of its object, which can be written
module _ (p : List ℕ) (bytes : AllBytes p) (whole : object_size p ≡ length p) (some : length p ≡ 0 → ⊥) where
  right : object_refusal p ≡ None
  right = size_refusal p (λ z. some (sym whole ∙ z))

  self : take (object_size p) p ≡ p
  self = take_all (object_size p) p (omega arith)

  object_self : object_in p ≡ record { tag = take (tag_size p) p; value = take (value_size p) (drop (header_size p) p) }
  object_self = ap object_in (sym self) ∙ object_in_lem p right

  pub piece_back : object_bytes (object_in p) ≡ p
  piece_back = ap object_bytes object_self ∙ read_written p bytes right ∙ self

  pub piece_writable : Writable (object_in p)
  piece_writable = subst Writable (sym object_self) (fit_writes (take (tag_size p) p) (take (value_size p) (drop (header_size p) p)) (read_fit p bytes right))

pub pieces_back : (ps : List (List ℕ)) → AllPieces object_size ps → AllBytes (flatten ps) → (written (map object_in ps) ≡ flatten ps) × AllWritable (map object_in ps)
unfolding flatten
pieces_back [] a b = (refl, tt)
pieces_back (p ∷ ps) a b =
    let h = bytes_left p (flatten ps) b in
    let ih = pieces_back ps a.2 (bytes_right p (flatten ps) b) in
    (rw (piece_back p h a.0 a.1, ih.0) refl, (piece_writable p h a.0 a.1, ih.1))

-- READ, THEN WRITTEN: a list of bytes with nothing wrong is the same bytes
pub list_read_written : (xs : List ℕ) → AllBytes xs → objects_refusal xs ≡ None → (written (objects_of xs) ≡ xs) × AllWritable (objects_of xs)
list_read_written xs b e =
    let f = flatten_pieces object_size object_within xs (objects_whole xs e) in
    let r = pieces_back (pieces object_size xs) (all_pieces object_size object_sizes xs) (subst AllBytes (sym f) b) in
    (r.0 ∙ f, r.1)

-- ---- tag lists, whatever the tags' size

all_tags : (ts : List (List ℕ)) → AllTags ts → AllPieces tag_size ts
all_tags [] a = tt
all_tags (t ∷ ts) a =
    let f = tag_fit t a.0 in
    (f.0, (λ z. f.1 (f.0 ∙ z)), all_tags ts a.1)

pub tags_all : (ts : List (List ℕ)) → AllPieces tag_size ts → AllTags ts
tags_all [] a = tt
tags_all (t ∷ ts) a = (simp (ne_eqb (length t) 0 a.1, eq-eqb (tag_size t) (length t) a.0), tags_all ts a.2)

-- WRITTEN, THEN READ: a list of tags is the same list, with nothing wrong
pub tags_written_read : (ts : List (List ℕ)) → AllTags ts → (tags_of (flatten ts) ≡ ts) × (tags_refusal (flatten ts) ≡ None)
tags_written_read ts a =
    (pieces_flatten tag_size tag_sizes ts (all_tags ts a), ap (fault_in tag_refusal) (rest_flatten tag_size tag_sizes ts (all_tags ts a)))

-- READ, THEN WRITTEN: a tag list with nothing wrong is the same bytes, and each of its tags is one
pub tags_read_written : (xs : List ℕ) → tags_refusal xs ≡ None → (flatten (tags_of xs) ≡ xs) × AllTags (tags_of xs)
tags_read_written xs e = (flatten_pieces tag_size tag_within xs (tags_whole xs e), tags_all (tags_of xs) (all_pieces tag_size tag_sizes xs))
