-- The register of the check between two bytes of a text.
use Rattle.std.specs.Prelude.{ℕ, Bool, List, ◌++◌}
use Rattle.crc16.specs.Crc.{◌⊕◌, zeros, remainder, bits, bits_of, number}

-- the register's bits after the bits m, if they were r before them: the remainder of m and sixteen zeros, with r added at the front
unfoldable pub fed : List Bool → List Bool → List Bool
fed r m = remainder (r ⊕ (m ++ zeros 16))

-- ONE BYTE MORE: the register after a byte, if it was `register` before it
unfoldable pub stepped : ℕ → ℕ → ℕ
stepped register byte = number (fed (bits 16 register) (bits 8 byte))

-- the register after some bytes, from 0: their remainder. After a payload and ETB it is the payload's check
unfoldable pub register_after : List ℕ → ℕ
register_after s = number (remainder (bits_of s ++ zeros 16))
