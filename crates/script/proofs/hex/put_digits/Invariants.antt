-- The digits of the bytes passed stand at the front.
use Rattle.std.proofs.Common.{◌≡◌, ◌*◌, length, take}
use Rattle.std.specs.List.{flat_map}
use Rattle.script.specs.Shown.{two_digits}
use Rattle.script.proofs.hex.put_digits.Given as goal

abbrev pub invariant-loop-i : goal.invariant-loop-i
invariant-loop-i l = record {
  length : length l.digits ≡ 2 * length l.bytes;
  value : take (2 * l.i) l.digits ≡ flat_map two_digits (take l.i l.bytes);
}
