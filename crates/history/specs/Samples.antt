-- The scope paper's marked samples, one table under one claim (section Sample line traffic).
use Rattle.std.specs.Prelude.{ℕ, ◌/◌, ◌%◌, ◌≡◌, Bool, true, false, List, [], ◌∷◌, ◌++◌, length, replicate, Ok, Err}
use Rattle.answer.specs.declared.refusal.Refusal.{Refusal}
use Rattle.answer.specs.declared.refusal.Refusal.TheVariants.{LongParameter, NoLength}
use Rattle.answer.specs.Answers.{Output}
use Rattle.packet.specs.Packet.{write_packet, read_packet}
use Rattle.message.specs.Message.{read_message, write_message}
use Rattle.objects.specs.Object.{read_of}
use Rattle.command.specs.Texts.{ascii}
use Rattle.history.specs.Replies.{replies_of}
use Rattle.history.specs.Calls.{bytes_then}

pub data Sample : Type 0 where
  -- bytes to a fresh device, and its replies
  line : List ℕ → List ℕ → Sample
  -- a payload, and its packet
  packet : List ℕ → List ℕ → Sample
  -- a message, whether it is a response, and the number and data of its one parameter
  parameter : List ℕ → Bool → ℕ → List ℕ → Sample
  -- bytes that start with an object: the lengths of its tag, its header and the whole
  object : List ℕ → ℕ → ℕ → ℕ → Sample
  -- bytes that do not, and the refusal
  no_object : List ℕ → Refusal → Sample
  -- a command's head and a parameter list, and what writing them gives
  written : List ℕ → List ℕ → Output → Sample

-- a parameter: number and length, high byte first, and data
abbrev pub parameter_of : ℕ → List ℕ → List ℕ
parameter_of number d = number / 256 ∷ number % 256 ∷ length d / 256 ∷ length d % 256 ∷ d

-- what a sample says of the definitions
unfoldable pub Holds : Sample → Type 0
Holds (line ins outs) = replies_of (bytes_then ins []) ≡ outs
Holds (packet p b) = (write_packet p ≡ Ok b) × (read_packet b ≡ Ok p)
Holds (parameter m response number d) = read_message response m ≡ Ok (parameter_of number d)
Holds (object bytes tag header whole) = read_of bytes ≡ Ok (record { tag = tag; header = header; whole = whole })
Holds (no_object bytes e) = read_of bytes ≡ Err e
Holds (written head list result) = write_message head false list ≡ result

-- n data bytes
abbrev pub data30 : ℕ → List ℕ
data30 n = replicate n 0x30

-- THE TABLE
unfoldable pub samples : List Sample
samples =
    line (0x16 ∷ 0x4f ∷ 0x50 ∷ 0x4e ∷ 0x17 ∷ 0xa8 ∷ 0xa9 ∷ []) (0x06 ∷ 0x16 ∷ 0x4f ∷ 0x50 ∷ 0x4e ∷ 0x30 ∷ 0x30 ∷ 0x30 ∷ 0x17 ∷ 0x77 ∷ 0x5e ∷ [])
    ∷ packet (0x16 ∷ []) (0x16 ∷ 0x13 ∷ 0x36 ∷ 0x17 ∷ 0xcb ∷ 0x03 ∷ [])
    ∷ line (0x16 ∷ 0x13 ∷ 0x36 ∷ 0x17 ∷ 0xcb ∷ 0x04 ∷ []) (0x15 ∷ [])
    ∷ parameter (0x43 ∷ 0x45 ∷ 0x58 ∷ 0x30 ∷ 0x31 ∷ 0x30 ∷ 0x00 ∷ 0x06 ∷ 0x00 ∷ 0x06 ∷ 0x30 ∷ 0x31 ∷ 0x30 ∷ 0x30 ∷ 0x30 ∷ 0x30 ∷ []) false 0x0006 (0x30 ∷ 0x31 ∷ 0x30 ∷ 0x30 ∷ 0x30 ∷ 0x30 ∷ [])
    ∷ parameter (0x4d ∷ 0x4e ∷ 0x55 ∷ 0x30 ∷ 0x30 ∷ 0x30 ∷ 0x30 ∷ 0x30 ∷ 0x36 ∷ 0x80 ∷ 0x4d ∷ 0x00 ∷ 0x02 ∷ 0x30 ∷ 0x32 ∷ []) true 0x804d (0x30 ∷ 0x32 ∷ [])
    ∷ object (0x9f ∷ 0x27 ∷ 0x01 ∷ 0x40 ∷ []) 2 3 4
    ∷ no_object (0x9f ∷ 0x27 ∷ 0x81 ∷ 0x05 ∷ 0x01 ∷ 0x02 ∷ 0x03 ∷ 0x04 ∷ 0x05 ∷ []) NoLength
    ∷ object (0x50 ∷ 0x82 ∷ 0x01 ∷ 0x00 ∷ replicate 256 0x41) 1 4 260
    ∷ line (0x18 ∷ []) (0x04 ∷ [])
    ∷ written (ascii "CEX") (parameter_of 0x0001 (data30 995)) (Ok (ascii "CEX999" ++ parameter_of 0x0001 (data30 995)))
    ∷ written (ascii "CEX") (parameter_of 0x0001 (data30 996)) (Err LongParameter)
    ∷ []

-- every one of them holds
unfoldable pub All : List Sample → Type 0
All [] = Unit {0}
All (s ∷ ss) = Holds s × All ss
