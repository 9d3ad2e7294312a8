-- The terms of the theorems on packets, and the scope paper's marked samples on them (section Sample line traffic).
use Rattle.std.specs.Prelude.{◌≡◌, List, [], ◌∷◌, ℕ, ◌≤◌, length, Ok, Err}
use Rattle.answer.specs.declared.refusal.Refusal.TheVariants.{WrongCheck}
use Rattle.packet.specs.Packet.{packet_of, read_packet}

-- b is the packet of p, and p has 1 to 2,048 bytes
abbrev pub IsPacket : List ℕ → List ℕ → Type 0
IsPacket b p = (b ≡ packet_of p) × (1 ≤ length p) × (length p ≤ 2048)

pub record PacketSamples : Type 0 where
  -- the seven bytes of OPN read as OPN
  pub opn : read_packet (0x16 ∷ 0x4f ∷ 0x50 ∷ 0x4e ∷ 0x17 ∷ 0xa8 ∷ 0xa9 ∷ []) ≡ Ok (0x4f ∷ 0x50 ∷ 0x4e ∷ [])
  -- the packet of the payload 16h
  pub syn : packet_of (0x16 ∷ []) ≡ 0x16 ∷ 0x13 ∷ 0x36 ∷ 0x17 ∷ 0xcb ∷ 0x03 ∷ []
  -- the same with its last byte changed to 04h
  pub wrong : read_packet (0x16 ∷ 0x13 ∷ 0x36 ∷ 0x17 ∷ 0xcb ∷ 0x04 ∷ []) ≡ Err WrongCheck
