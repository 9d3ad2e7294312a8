-- What the private functions come to. No public promise cites it, and no reader has to believe it.
use Rattle.std.specs.Prelude.{ℕ, ◌≤◌, ◌≡◌, ◌||◌, cond, List, [], ◌∷◌, length, eqb, Option, Some, None}
use Rattle.answer.specs.Laid.{Puts}
use Rattle.crc16.specs.Register.{register_after}
use Rattle.packet.specs.declared.Body.{Body}
use Rattle.packet.specs.declared.Stuffed.{Stuffed}
use Rattle.packet.specs.Substitution.{stuff}

-- what a pair that ends with y stands for
unfoldable pub pair_of : ℕ → Option ℕ
pair_of y =
    cond (eqb y 0x33) (Some 0x13)
    (cond (eqb y 0x36) (Some 0x16)
    (cond (eqb y 0x37) (Some 0x17)
    None))

-- what a byte outside a pair stands for
unfoldable pub plain_of : ℕ → Option ℕ
plain_of x = cond (eqb x 0x13 || (eqb x 0x16 || eqb x 0x17)) None (Some x)

-- what the bytes and pairs of a body stand for, one after another
unfoldable pub symbols : List ℕ → List (Option ℕ)
symbols [] = []
symbols (x ∷ []) = plain_of x ∷ []
symbols (x ∷ y ∷ ys) = cond (eqb x 0x13) (pair_of y ∷ symbols ys) (plain_of x ∷ symbols (y ∷ ys))

-- the payload of a body that is sent for one
abbrev pub payload_in : Option (List ℕ) → List ℕ
payload_in (Some p) = p
payload_in None = []

-- how many payload bytes a body has, and the check's register after them
abbrev pub body_of : Option (List ℕ) → Option Body
body_of (Some p) = Some (record { count = length p; register = register_after p })
body_of None = None

-- a body that is sent for a payload, and room for that
pub record Room (u : Option (List ℕ)) (out : List ℕ) : Type 0 where
  pub is : u ≡ Some (payload_in u)
  pub fits : length (payload_in u) ≤ length out

-- SYN and the payload with substitutions are put at the start, and the check's register has met the payload
pub record Stuffs (payload out : List ℕ) (r : Stuffed) (out' : List ℕ) : Type 0 where
  pub put : Puts out 0 (0x16 ∷ stuff payload) r.at out'
  pub met : r.register ≡ register_after payload
