-- The terms of the theorems on one object, and the scope paper's marked samples on it (section Sample line traffic).
use Rattle.std.specs.Prelude.{◌≡◌, List, [], ◌∷◌, ℕ, ◌≤◌, ◌<◌, length, replicate, Ok, Err}
use Rattle.objects.specs.Tag.{tag_size}
use Rattle.answer.specs.declared.refusal.Refusal.TheVariants.{NoLength}
use Rattle.objects.specs.Object.{read_of}

-- a list of bytes
abbrev pub AllBytes : List ℕ → Type 0
AllBytes [] = Unit {0}
AllBytes (x ∷ xs) = (x < 256) × AllBytes xs

-- what the writer demands: exactly one tag, and a value that is not too long
pub record Fit (tag value : List ℕ) : Type 0 where
  pub tag_is : tag_size tag ≡ length tag
  pub some : tag_size tag ≡ 0 → ⊥
  pub small : length value ≤ 65535

pub record ObjectSamples : Type 0 where
  -- a tag of two bytes, one byte of length and one of value
  pub short : read_of (0x9f ∷ 0x27 ∷ 0x01 ∷ 0x40 ∷ []) ≡ Ok (record { tag = 2; header = 3; whole = 4 })
  -- 81h before a length below 80h
  pub needless : read_of (0x9f ∷ 0x27 ∷ 0x81 ∷ 0x05 ∷ 0x01 ∷ 0x02 ∷ 0x03 ∷ 0x04 ∷ 0x05 ∷ []) ≡ Err NoLength
  -- 82h before the length 0100h, and 256 bytes of value
  pub long : read_of (0x50 ∷ 0x82 ∷ 0x01 ∷ 0x00 ∷ replicate 256 0x41) ≡ Ok (record { tag = 1; header = 4; whole = 260 })
