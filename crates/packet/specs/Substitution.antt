-- The substitutions of a payload, and undoing them (scope paper, section Packet).
use Rattle.std.specs.Prelude.{ℕ, ◌||◌, cond, List, [], ◌∷◌, ◌++◌, eqb, Option, Some, None}

-- how one payload byte is sent: 13h, 16h and 17h each as a pair that starts with 13h, any other byte as itself
unfoldable pub sent : ℕ → List ℕ
sent b =
    cond (eqb b 0x13) (0x13 ∷ 0x33 ∷ [])
    (cond (eqb b 0x16) (0x13 ∷ 0x36 ∷ [])
    (cond (eqb b 0x17) (0x13 ∷ 0x37 ∷ [])
    (b ∷ [])))

-- a payload with its substitutions
unfoldable pub stuff : List ℕ → List ℕ
stuff [] = []
stuff (b ∷ p) = sent b ++ stuff p

-- ---- undoing them

-- one payload byte before the others
abbrev pub and_then : ℕ → Option (List ℕ) → Option (List ℕ)
and_then b (Some p) = Some (b ∷ p)
and_then b None = None

-- a pair by its second byte: 33h, 36h and 37h make the three pairs, any other is a bad pair
unfoldable pub pair_then : ℕ → Option (List ℕ) → Option (List ℕ)
pair_then y more =
    cond (eqb y 0x33) (and_then 0x13 more)
    (cond (eqb y 0x36) (and_then 0x16 more)
    (cond (eqb y 0x37) (and_then 0x17 more)
    None))

-- a byte outside a pair: itself, unless it is a raw SYN or ETB
unfoldable pub plain_then : ℕ → Option (List ℕ) → Option (List ℕ)
plain_then x more = cond (eqb x 0x16 || eqb x 0x17) None (and_then x more)

-- THE PAYLOAD that some bytes are sent for, or none. It is read byte by byte and pair by pair; a 13h with nothing after it is a bad pair
unfoldable pub unstuff : List ℕ → Option (List ℕ)
unstuff [] = Some []
unstuff (x ∷ []) = cond (eqb x 0x13) None (plain_then x (Some []))
unstuff (x ∷ y ∷ ys) = cond (eqb x 0x13) (pair_then y (unstuff ys)) (plain_then x (unstuff (y ∷ ys)))
