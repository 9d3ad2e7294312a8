-- The scope paper's marked samples hold, by computation of the definitions.
use mathlib.Core.Path.{refl}
use mathlib.Core.List.{flatten}
use Rattle.answer.specs.Pieces.{pieces_from, rest_from, every}
use Rattle.crc16.specs.Crc.{◌⊕◌, zeros, generator, divide, remainder, odd, bits, bits_of, number, check}
use Rattle.packet.specs.Substitution.{sent, stuff, pair_then, plain_then, unstuff}
use Rattle.packet.specs.Packet.{packet_of, before, read_packet}
use Rattle.parameters.specs.Parameters.{parameter_in}
use Rattle.message.specs.Blocks.{block_in, filled, first_in}
use Rattle.message.specs.Message.{head_good, read_message, message_of, write_message}
use Rattle.objects.specs.Tag.{tag_size, size_of_two}
use Rattle.objects.specs.LengthForm.{form_at, after81, after82}
use Rattle.objects.specs.Object.{object_refusal, object_size, read_of}
use Rattle.command.specs.Texts.{starts}
use Rattle.command.specs.Command.{command_of}
use Rattle.execution.specs.CommandTable.{response_to}
use Rattle.history.specs.Text.{has, up_to, after_first, after_last, between, data_in, rest_in, found, items_in}
use Rattle.history.specs.Ran.{items, seen_from}
use Rattle.history.specs.Replies.{response_after, replies_from}
use Rattle.history.specs.Calls.{bytes_then}
use Rattle.history.specs.Samples.{Holds, samples, All}

-- THE SAMPLES HOLD
pub samples_hold : All samples
unfolding All Holds samples packet_of stuff sent read_packet before unstuff pair_then plain_then check number remainder divide ◌⊕◌ bits_of bits odd zeros generator read_message write_message message_of head_good block_in parameter_in first_in filled pieces_from rest_from every flatten tag_size size_of_two form_at after81 after82 object_refusal object_size read_of starts command_of response_to has up_to after_first after_last between data_in rest_in found items_in items seen_from response_after replies_from bytes_then
samples_hold = (refl, ((refl, refl), (refl, (refl, (refl, (refl, (refl, (refl, (refl, (refl, (refl, tt)))))))))))
