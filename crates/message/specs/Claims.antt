-- The scope paper's marked samples on messages (section Sample line traffic).
use Rattle.std.specs.Prelude.{◌≡◌, true, false, List, [], ◌∷◌, ℕ, replicate, Ok, Err}
use Rattle.answer.specs.declared.refusal.Refusal.TheVariants.{LongParameter}
use Rattle.parameters.specs.Claims.{cex_list, mnu_list}
use Rattle.message.specs.Blocks.{blocks_of}
use Rattle.message.specs.Message.{body_of, read_message, write_message}

-- a list of one parameter, with 995 data bytes and with 996
abbrev pub longest : List ℕ
longest = 0x00 ∷ 0x01 ∷ 0x03 ∷ 0xe3 ∷ replicate 995 0x30

abbrev pub longer : List ℕ
longer = 0x00 ∷ 0x01 ∷ 0x03 ∷ 0xe4 ∷ replicate 996 0x30

pub record MessageSamples : Type 0 where
  -- CEX, read as a command: the list with the one parameter 0006h
  pub cex : read_message false (0x43 ∷ 0x45 ∷ 0x58 ∷ 0x30 ∷ 0x31 ∷ 0x30 ∷ 0x00 ∷ 0x06 ∷ 0x00 ∷ 0x06 ∷ 0x30 ∷ 0x31 ∷ 0x30 ∷ 0x30 ∷ 0x30 ∷ 0x30 ∷ []) ≡ Ok cex_list
  -- the response to MNU, read as a response: the list with 804Dh
  pub mnu : read_message true (0x4d ∷ 0x4e ∷ 0x55 ∷ 0x30 ∷ 0x30 ∷ 0x30 ∷ 0x30 ∷ 0x30 ∷ 0x36 ∷ 0x80 ∷ 0x4d ∷ 0x00 ∷ 0x02 ∷ 0x30 ∷ 0x32 ∷ []) ≡ Ok mnu_list
  -- a parameter of 995 data bytes goes into one block, of 999 bytes
  pub fits : (write_message (0x43 ∷ 0x45 ∷ 0x58 ∷ []) false longest ≡ Ok (0x43 ∷ 0x45 ∷ 0x58 ∷ 0x39 ∷ 0x39 ∷ 0x39 ∷ longest))
      × (blocks_of (body_of false (0x43 ∷ 0x45 ∷ 0x58 ∷ 0x39 ∷ 0x39 ∷ 0x39 ∷ longest)) ≡ longest ∷ [])
  -- one of 996 is refused
  pub over : write_message (0x43 ∷ 0x45 ∷ 0x58 ∷ []) false longer ≡ Err LongParameter
