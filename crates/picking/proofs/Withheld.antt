-- What is picked, said of objects: whole objects as they stand in the list, and none that is withheld.
use mathlib.Core.Path.{◌≡◌, refl, sym, ap, ◌∙◌, subst}
use mathlib.Core.Bool.{Bool, true, false, cond}
use mathlib.Core.List.{List, [], ◌∷◌, ◌++◌, map, flatten, append-nil, append_assoc}
use Prim.Native.Nat.{ℕ}
use Rattle.std.specs.Prelude.{None}
use Rattle.answer.specs.Pieces.{pieces}
use Rattle.answer.specs.Claims.{AllPieces}
use Rattle.answer.proofs.Pieces.{all_pieces, flatten_pieces}
use Rattle.objects.specs.Object.{Object, object_of, object_in, object_size}
use Rattle.objects.specs.Claims.{AllBytes}
use Rattle.objects.specs.Within.{object_within}
use Rattle.objects.proofs.OnlyForm.{bytes_left, bytes_right}
use Rattle.picking.specs.Lists.{objects_of, objects_refusal, tags_of, written}
use Rattle.picking.specs.Pick.{same, is_withheld, shown, first_of, picked, picked_of}
use Rattle.picking.specs.Claims.{AllWritable, first_piece, picked_pieces, NoneWithheld}
use Rattle.picking.proofs.Lists.{object_sizes, objects_whole}
use Rattle.picking.proofs.ListRoundTrip.{piece_back, list_written_read, list_read_written}

-- ---- as they stand

first_stands : (t : List ℕ) (ps : List (List ℕ)) → AllPieces object_size ps → AllBytes (flatten ps) → first_of t (map object_in ps) ≡ first_piece t ps
unfolding first_of shown first_piece flatten
first_stands t [] a b = refl
first_stands t (p ∷ ps) a b =
    rw (piece_back p (bytes_left p (flatten ps) b) a.0 a.1, first_stands t ps a.2 (bytes_right p (flatten ps) b)) refl

picked_stands : (ts ps : List (List ℕ)) → AllPieces object_size ps → AllBytes (flatten ps) → picked ts (map object_in ps) ≡ picked_pieces ts ps
unfolding picked picked_pieces
picked_stands [] ps a b = refl
picked_stands (t ∷ ts) ps a b = rw (first_stands t ps a b, picked_stands ts ps a b) refl

-- WHAT IS PICKED are objects of the list as they stand there, byte for byte
pub picked_as_they_stand : (tags objects : List ℕ) → AllBytes objects → objects_refusal objects ≡ None → picked_of tags objects ≡ picked_pieces (tags_of tags) (pieces object_size objects)
picked_as_they_stand tags objects b e =
    let f = flatten_pieces object_size object_within objects (objects_whole objects e) in
    picked_stands (tags_of tags) (pieces object_size objects) (all_pieces object_size object_sizes objects) (subst AllBytes (sym f) b)

-- ---- none withheld

-- the object that is picked for a tag, if there is one and it may be shown
unfoldable pub chosen_for : List ℕ → List Object → List Object
chosen_for t [] = []
chosen_for t (o ∷ os) = cond (same t o.tag) (cond (is_withheld o.tag) [] (o ∷ [])) (chosen_for t os)

-- and those for a list of tags
unfoldable pub chosen : List (List ℕ) → List Object → List Object
chosen [] os = []
chosen (t ∷ ts) os = chosen_for t os ++ chosen ts os

written_append : (os ps : List Object) → written (os ++ ps) ≡ written os ++ written ps
written_append [] ps = refl
written_append (o ∷ os) ps = ap (λ (l : List ℕ). object_of o.tag o.value ++ l) (written_append os ps) ∙ sym (append_assoc (object_of o.tag o.value) (written os) (written ps))

first_chosen : (t : List ℕ) (os : List Object) → first_of t os ≡ written (chosen_for t os)
unfolding first_of shown chosen_for
first_chosen t [] = refl
first_chosen t (o ∷ os) = cases (same t o.tag) (is_withheld o.tag) (first_chosen t os)
  where
    cases : (s w : Bool) → first_of t os ≡ written (chosen_for t os)
        → cond s (cond w [] (object_of o.tag o.value)) (first_of t os) ≡ written (cond s (cond w [] (o ∷ [])) (chosen_for t os))
    cases false w ih = ih
    cases true true ih = refl
    cases true false ih = sym (append-nil (object_of o.tag o.value))

-- what is picked is made of such objects only
pub picked_chosen : (ts : List (List ℕ)) (os : List Object) → picked ts os ≡ written (chosen ts os)
unfolding picked chosen
picked_chosen [] os = refl
picked_chosen (t ∷ ts) os = rw (first_chosen t os, picked_chosen ts os) (sym (written_append (chosen_for t os) (chosen ts os)))

record Fine (os : List Object) : Type 0 where
  writable : AllWritable os
  allowed : NoneWithheld os

fine_append : (os ps : List Object) → Fine os → Fine ps → Fine (os ++ ps)
fine_append [] ps f g = g
fine_append (o ∷ os) ps f g =
    let h = fine_append os ps (record { writable = f.writable.1; allowed = f.allowed.1 }) g in
    record { writable = (f.writable.0, h.writable); allowed = (f.allowed.0, h.allowed) }

fine_for : (t : List ℕ) (os : List Object) → AllWritable os → Fine (chosen_for t os)
unfolding chosen_for
fine_for t [] a = record { writable = tt; allowed = tt }
fine_for t (o ∷ os) a = cases (same t o.tag) (is_withheld o.tag) refl (fine_for t os a.1)
  where
    cases : (s w : Bool) → is_withheld o.tag ≡ w → Fine (chosen_for t os) → Fine (cond s (cond w [] (o ∷ [])) (chosen_for t os))
    cases false w e ih = ih
    cases true true e ih = record { writable = tt; allowed = tt }
    cases true false e ih = record { writable = (a.0, tt); allowed = (e, tt) }

fine : (ts : List (List ℕ)) (os : List Object) → AllWritable os → Fine (chosen ts os)
unfolding chosen
fine [] os a = record { writable = tt; allowed = tt }
fine (t ∷ ts) os a = fine_append (chosen_for t os) (chosen ts os) (fine_for t os a) (fine ts os a)

-- NO OBJECT THAT IS WITHHELD: what is picked is a list of objects with nothing wrong, and none of them is 56h, 57h or 5Ah
pub never_withheld : (tags objects : List ℕ) → AllBytes objects → objects_refusal objects ≡ None
    → (objects_refusal (picked_of tags objects) ≡ None) × NoneWithheld (objects_of (picked_of tags objects))
never_withheld tags objects b e =
    let f = fine (tags_of tags) (objects_of objects) (list_read_written objects b e).1 in
    let p = picked_chosen (tags_of tags) (objects_of objects) in
    let r = list_written_read (chosen (tags_of tags) (objects_of objects)) f.writable in
    (ap objects_refusal p ∙ r.1, subst NoneWithheld (sym (ap objects_of p ∙ r.0)) f.allowed)
