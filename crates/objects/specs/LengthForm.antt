-- A length form (scope paper, section Data objects). This is the one place that says which forms there are.
use Rattle.std.specs.Prelude.{ℕ, ◌+◌, ◌*◌, ◌/◌, ◌%◌, cond, List, [], ◌∷◌, ltb, eqb, Option, Some, None}
use Rattle.objects.specs.declared.forms.Form.{Form}

-- a form of so many bytes that says this length
abbrev pub form : ℕ → ℕ → Option Form
form size value = Some (record { size = size; value = value })

-- ---- writing: the one form of a length, to 65,535

unfoldable pub form_of : ℕ → List ℕ
form_of n = cond (ltb n 0x80) (n ∷ []) (cond (ltb n 0x100) (0x81 ∷ n ∷ []) (0x82 ∷ n / 256 ∷ n % 256 ∷ []))

-- ---- reading: the form that a list starts with; none, where it starts with none or breaks off

-- after 81h one byte, which is 80h or more
unfoldable pub after81 : List ℕ → Option Form
after81 [] = None
after81 (b ∷ xs) = cond (ltb b 0x80) None (form 2 b)

-- after 82h two bytes, the high one first, which are 0100h or more
unfoldable pub after82 : List ℕ → Option Form
after82 [] = None
after82 (b ∷ []) = None
after82 (b ∷ c ∷ xs) = cond (ltb (b * 256 + c) 0x100) None (form 3 (b * 256 + c))

-- a byte below 80h is the length itself; 81h and 82h are followed by it; no other byte starts a form
unfoldable pub form_at : List ℕ → Option Form
form_at [] = None
form_at (a ∷ xs) = cond (ltb a 0x80) (form 1 a) (cond (eqb a 0x81) (after81 xs) (cond (eqb a 0x82) (after82 xs) None))

-- how many bytes a form has, and the length that it says; 0 where there is none
abbrev pub size_in : Option Form → ℕ
size_in None = 0
size_in (Some f) = f.size

abbrev pub value_in : Option Form → ℕ
value_in None = 0
value_in (Some f) = f.value
