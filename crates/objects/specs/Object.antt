-- Objects (scope paper, sections Data objects and Numbered refusals of calls).
use Rattle.std.specs.Prelude.{ℕ, ◌+◌, cond, List, ◌++◌, length, take, drop, leb, eqb, Option, Some, None, Result, Ok, Err}
use Rattle.answer.specs.declared.refusal.Refusal.{Refusal}
use Rattle.answer.specs.declared.refusal.Refusal.TheVariants.{NoTag, NoLength, CutValue, LongValue}
use Rattle.answer.specs.Answers.{Output}
use Rattle.objects.specs.declared.ObjectRead.{ObjectRead}
use Rattle.objects.specs.declared.forms.Form.{Form}
use Rattle.objects.specs.Tag.{tag_size, is_tag}
use Rattle.objects.specs.LengthForm.{form_of, form_at, size_in, value_in}

pub record Object : Type 0 where
  pub tag : List ℕ
  pub value : List ℕ

-- ---- writing

-- THE BYTES OF AN OBJECT: its tag, the length form of its value, and the value
unfoldable pub object_of : List ℕ → List ℕ → List ℕ
object_of tag value = tag ++ (form_of (length value) ++ value)

-- THE WRITER: 30 for bytes that are not exactly one tag, 33 for a value over 65,535 bytes (and 1, by the promise)
unfoldable pub write_object : List ℕ → List ℕ → Output
write_object tag value = cond (is_tag tag) (cond (leb (length value) 65535) (Ok (object_of tag value)) (Err LongValue)) (Err NoTag)

-- ---- reading the one object at the start of xs

abbrev pub header_size : List ℕ → ℕ
header_size xs = tag_size xs + size_in (form_at (drop (tag_size xs) xs))

abbrev pub value_size : List ℕ → ℕ
value_size xs = value_in (form_at (drop (tag_size xs) xs))

-- what is wrong behind a tag, where room bytes follow it: 31 where no length form stands or it breaks off, 32 where the value goes past the end
abbrev pub form_refusal : ℕ → Option Form → Option Refusal
form_refusal room None = Some NoLength
form_refusal room (Some f) = cond (leb (f.size + f.value) room) None (Some CutValue)

-- what is wrong, if anything is: 30 where no tag stands or it breaks off, then what is wrong behind the tag
unfoldable pub object_refusal : List ℕ → Option Refusal
object_refusal xs =
    cond (eqb (tag_size xs) 0) (Some NoTag)
    (form_refusal (length (drop (tag_size xs) xs)) (form_at (drop (tag_size xs) xs)))

-- a refusal, if something is wrong
abbrev pub unless : {A : Type 0} → Option Refusal → Result A Refusal → Result A Refusal
unless None more = more
unless (Some e) more = Err e

-- THE READER: the lengths of the tag, of the header and of the whole object
unfoldable pub read_of : List ℕ → Result ObjectRead Refusal
read_of xs = unless (object_refusal xs) (Ok (record { tag = tag_size xs; header = header_size xs; whole = header_size xs + value_size xs }))

-- the size of an object that was read, 0 where none was
abbrev pub whole_in : Result ObjectRead Refusal → ℕ
whole_in (Ok r) = r.whole
whole_in (Err e) = 0

-- the size of the object that xs starts with, 0 where it starts with none
unfoldable pub object_size : List ℕ → ℕ
object_size xs = whole_in (read_of xs)

-- the object whose bytes are xs
unfoldable pub object_in : List ℕ → Object
object_in xs = record { tag = take (tag_size xs) xs; value = drop (header_size xs) xs }
