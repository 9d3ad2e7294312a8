-- Picking objects for a tag list (scope paper, sections Data objects and Numbered refusals of calls).
use Rattle.std.specs.Prelude.{ℕ, Bool, true, false, ◌&&◌, ◌||◌, cond, List, [], ◌∷◌, ◌++◌, eqb, Ok}
use Rattle.answer.specs.Answers.{Output}
use Rattle.objects.specs.Object.{Object, object_of, unless}
use Rattle.picking.specs.Lists.{objects_of, tags_of, objects_refusal, tags_refusal}

-- two lists of bytes are equal
unfoldable pub same : List ℕ → List ℕ → Bool
same [] [] = true
same [] (y ∷ ys) = false
same (x ∷ xs) [] = false
same (x ∷ xs) (y ∷ ys) = eqb x y && same xs ys

-- the objects that picking never writes: 56h, 57h and 5Ah
unfoldable pub is_withheld : List ℕ → Bool
is_withheld tag = same tag (0x56 ∷ []) || (same tag (0x57 ∷ []) || same tag (0x5a ∷ []))

-- what is written of an object: all of it, its value as it stands; or nothing
unfoldable pub shown : Object → List ℕ
shown o = cond (is_withheld o.tag) [] (object_of o.tag o.value)

-- the first object with this tag; nothing, where the tag is absent
unfoldable pub first_of : List ℕ → List Object → List ℕ
first_of tag [] = []
first_of tag (o ∷ os) = cond (same tag o.tag) (shown o) (first_of tag os)

-- for each tag, in tag order
unfoldable pub picked : List (List ℕ) → List Object → List ℕ
picked [] os = []
picked (tag ∷ tags) os = first_of tag os ++ picked tags os

-- what is picked from the bytes of an object list for the bytes of a tag list
abbrev pub picked_of : List ℕ → List ℕ → List ℕ
picked_of tags objects = picked (tags_of tags) (objects_of objects)

-- THE PICKER: 30 to 32 by the first bad place, the tag list before the objects (and 1, by the promise)
unfoldable pub pick : List ℕ → List ℕ → Output
pick tags objects = unless (tags_refusal tags) (unless (objects_refusal objects) (Ok (picked_of tags objects)))
