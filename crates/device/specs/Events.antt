-- What happens to a device from outside: bytes of the line, timeouts, restarts (scope paper, sections What the module covers and Reception).
use Rattle.std.specs.Prelude.{ℕ}

-- any history is of these
pub data Event : Type 0 where
  byte : ℕ → Event
  timeout : Event
  restart : Event
