-- The packet of a payload, and what reading bytes as a packet gives (scope paper, sections Packet and Numbered refusals of calls).
use Rattle.std.specs.Prelude.{ℕ, suc, ◌/◌, ◌%◌, ◌&&◌, cond, List, [], ◌∷◌, ◌++◌, length, take, drop, ltb, eqb, Option, Some, None, Ok, Err}
use Rattle.answer.specs.declared.refusal.Refusal.TheVariants.{Empty, TooLong, NoPacket, WrongCheck}
use Rattle.answer.specs.Answers.{Output}
use Rattle.crc16.specs.Crc.{check}
use Rattle.packet.specs.Substitution.{stuff, unstuff}

-- ETB, then the check of the payload as it was before substitution: two raw bytes, the high one first
abbrev pub ending : List ℕ → List ℕ
ending p = 0x17 ∷ check p / 256 ∷ check p % 256 ∷ []

-- THE PACKET of a payload: SYN, the payload with substitutions, ETB and the check
unfoldable pub packet_of : List ℕ → List ℕ
packet_of p = 0x16 ∷ (stuff p ++ ending p)

-- refusals 10 and 11: a payload has 1 to 2,048 bytes; one that has goes on
abbrev pub sized : List ℕ → Output → Output
sized p more = cond (eqb (length p) 0) (Err Empty) (cond (ltb 2048 (length p)) (Err TooLong) more)

-- THE WRITER: 10, 11 (and 1, by the promise)
abbrev pub write_packet : List ℕ → Output
write_packet p = sized p (Ok (packet_of p))

-- ---- reading

-- how many bytes stand before the first k: all of them, where there is none
unfoldable pub before : ℕ → List ℕ → ℕ
before k [] = 0
before k (x ∷ xs) = cond (eqb x k) 0 (suc (before k xs))

-- refusal 13: the check bytes are not those of the payload
abbrev pub checked : List ℕ → ℕ → ℕ → Output
checked p a b = cond (eqb a (check p / 256) && eqb b (check p % 256)) (Ok p) (Err WrongCheck)

-- the order after refusal 12: 10, 11, 13
abbrev pub judged : Option (List ℕ) → ℕ → ℕ → Output
judged (Some p) a b = sized p (checked p a b)
judged None a b = Err NoPacket

-- what stands after ETB is two check bytes, no more and no fewer
abbrev pub closed : List ℕ → List ℕ → Output
closed body [] = Err NoPacket
closed body (a ∷ []) = Err NoPacket
closed body (a ∷ b ∷ []) = judged (unstuff body) a b
closed body (a ∷ b ∷ x ∷ xs) = Err NoPacket

-- what stands after SYN: a body up to the first ETB (none stands in a payload's substitutions), and what closes it
abbrev pub rest_of : List ℕ → Output
rest_of xs = closed (take (before 0x17 xs) xs) (drop (suc (before 0x17 xs)) xs)

-- THE READER: 12, 10, 11, 13 (and 1, by the promise). 12 is for all that no payload of any size is sent as: no SYN at the start, another raw SYN,
-- a bad pair, no raw ETB, or not two bytes after the first
unfoldable pub read_packet : List ℕ → Output
read_packet [] = Err NoPacket
read_packet (x ∷ xs) = cond (eqb x 0x16) (rest_of xs) (Err NoPacket)
