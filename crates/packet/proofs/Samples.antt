-- The marked samples of the scope paper that speak of packets alone, by computation of the definitions (section Sample line traffic).
use mathlib.Core.Path.{refl}
use Rattle.crc16.specs.Crc.{◌⊕◌, zeros, generator, divide, remainder, odd, bits, bits_of, number, check}
use Rattle.packet.specs.Substitution.{sent, stuff, pair_then, plain_then, unstuff}
use Rattle.packet.specs.Packet.{packet_of, before, read_packet}
use Rattle.packet.specs.Claims.{PacketSamples}

pub packet_samples : PacketSamples
unfolding packet_of stuff sent read_packet before unstuff pair_then plain_then check number remainder divide ◌⊕◌ bits_of bits odd zeros generator
packet_samples = record { opn = refl; syn = refl; wrong = refl }
