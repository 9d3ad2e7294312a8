-- Lists of objects and tag lists (scope paper, sections Data objects and Numbered refusals of calls).
use Rattle.std.specs.Prelude.{ℕ, cond, List, [], ◌∷◌, ◌++◌, map, eqb, Option, Some, None}
use Rattle.answer.specs.declared.refusal.Refusal.{Refusal}
use Rattle.answer.specs.declared.refusal.Refusal.TheVariants.{NoTag}
use Rattle.answer.specs.Pieces.{pieces, rest}
use Rattle.objects.specs.Tag.{tag_size}
use Rattle.objects.specs.Object.{Object, object_of, object_refusal, object_size, object_in}

-- what is wrong where a list stops being pieces; nothing, where nothing is left
abbrev pub fault_in : (List ℕ → Option Refusal) → List ℕ → Option Refusal
fault_in refusal [] = None
fault_in refusal (x ∷ xs) = refusal (x ∷ xs)

-- the objects of a list, one after another
abbrev pub objects_of : List ℕ → List Object
objects_of xs = map object_in (pieces object_size xs)

-- the first bad object in order decides
abbrev pub objects_refusal : List ℕ → Option Refusal
objects_refusal xs = fault_in object_refusal (rest object_size xs)

-- the tags of a tag list, one after another
abbrev pub tags_of : List ℕ → List (List ℕ)
tags_of xs = pieces tag_size xs

-- what is no tag is 30
abbrev pub tag_refusal : List ℕ → Option Refusal
tag_refusal xs = cond (eqb (tag_size xs) 0) (Some NoTag) None

abbrev pub tags_refusal : List ℕ → Option Refusal
tags_refusal xs = fault_in tag_refusal (rest tag_size xs)

-- the bytes of objects one after another
abbrev pub written : List Object → List ℕ
written [] = []
written (o ∷ os) = object_of o.tag o.value ++ written os
