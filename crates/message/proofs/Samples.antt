-- The marked samples of the scope paper that speak of messages, by computation of the definitions (section Sample line traffic).
use mathlib.Core.Path.{◌≡◌, refl}
use mathlib.Core.Bool.{true, false}
use mathlib.Core.List.{[], ◌∷◌, flatten}
use Rattle.std.specs.Prelude.{Err}
use Rattle.answer.specs.declared.refusal.Refusal.TheVariants.{NoParameter}
use Rattle.answer.specs.Pieces.{pieces_from, rest_from, every}
use Rattle.parameters.specs.Parameters.{parameter_in, whole_list}
use Rattle.message.specs.Blocks.{block_in, filled, first_in}
use Rattle.message.specs.Message.{head_good, read_message, message_of, write_message}
use Rattle.message.specs.Claims.{MessageSamples}

pub message_samples : MessageSamples
unfolding read_message write_message message_of head_good block_in parameter_in first_in filled pieces_from rest_from every flatten
message_samples = record { cex = refl; mnu = refl; fits = (refl, refl); over = refl }

-- not of the paper: two blocks between which a parameter is cut are refused, though together they hold a whole list
pub cut_refused : (read_message false (0x43 ∷ 0x45 ∷ 0x58 ∷ 0x30 ∷ 0x30 ∷ 0x34 ∷ 0x00 ∷ 0x06 ∷ 0x00 ∷ 0x02 ∷ 0x30 ∷ 0x30 ∷ 0x32 ∷ 0x30 ∷ 0x31 ∷ []) ≡ Err NoParameter)
    × (whole_list (0x00 ∷ 0x06 ∷ 0x00 ∷ 0x02 ∷ 0x30 ∷ 0x31 ∷ []) ≡ true)
unfolding read_message head_good block_in parameter_in pieces_from rest_from every flatten
cut_refused = (refl, refl)
