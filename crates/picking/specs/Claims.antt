-- The terms of the theorems on lists and on what is picked.
use Rattle.std.specs.Prelude.{◌≡◌, true, false, cond, List, [], ◌∷◌, ◌++◌, ℕ, Ok}
use Rattle.answer.specs.Pieces.{pieces}
use Rattle.objects.specs.Tag.{tag_size, is_tag}
use Rattle.objects.specs.Object.{Object, object_of, write_object, object_in, object_size}
use Rattle.picking.specs.Pick.{same, is_withheld}

-- ---- lists that can be written

abbrev pub object_bytes : Object → List ℕ
object_bytes o = object_of o.tag o.value

-- an object that the writer gives
abbrev pub Writable : Object → Type 0
Writable o = write_object o.tag o.value ≡ Ok (object_bytes o)

abbrev pub AllWritable : List Object → Type 0
AllWritable [] = Unit {0}
AllWritable (o ∷ os) = Writable o × AllWritable os

abbrev pub AllTags : List (List ℕ) → Type 0
AllTags [] = Unit {0}
AllTags (t ∷ ts) = (is_tag t ≡ true) × AllTags ts

-- ---- what is picked

-- the first piece whose tag is t, as it stands, unless it is withheld
unfoldable pub first_piece : List ℕ → List (List ℕ) → List ℕ
first_piece t [] = []
first_piece t (p ∷ ps) = cond (same t (object_in p).tag) (cond (is_withheld (object_in p).tag) [] p) (first_piece t ps)

-- and so for each tag of a list
unfoldable pub picked_pieces : List (List ℕ) → List (List ℕ) → List ℕ
picked_pieces [] ps = []
picked_pieces (t ∷ ts) ps = first_piece t ps ++ picked_pieces ts ps

-- from the bytes of an object list for the bytes of a tag list
abbrev pub pieces_picked : List ℕ → List ℕ → List ℕ
pieces_picked tags objects = picked_pieces (pieces tag_size tags) (pieces object_size objects)

-- none of these is 56h, 57h or 5Ah
abbrev pub NoneWithheld : List Object → Type 0
NoneWithheld [] = Unit {0}
NoneWithheld (o ∷ os) = (is_withheld o.tag ≡ false) × NoneWithheld os
