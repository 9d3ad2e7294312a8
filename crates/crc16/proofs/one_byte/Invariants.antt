-- The register, fed with a zero for each turn left, gives what `register` gives with the byte.
use mathlib.Core.Path.{◌≡◌}
use Prim.Native.Nat.{◌-◌, ◌≤◌}
use Rattle.crc16.specs.Crc.{zeros, bits}
use Rattle.crc16.specs.Register.{fed}
use Rattle.crc16.proofs.one_byte.Given as goal

abbrev pub invariant-loop : goal.invariant-loop
invariant-loop l = (l.counter ≤ 8) × (fed (bits 16 l.register) (bits 8 l.byte) ≡ fed (bits 16 l.r) (zeros (8 - l.counter)))
