-- What the private functions come to. No public promise cites it, and no reader has to believe it.
use Rattle.std.specs.Prelude.{ℕ, ◌&&◌, cond, List, length, drop, eqb, Option, Some, None}
use Rattle.command.specs.Texts.{starts, all_text}
use Rattle.command.specs.Command.{network_at, network_of}

-- the network of a payload of n bytes: a head, two digits, and text
unfoldable pub network_in : List ℕ → ℕ → List ℕ → Option ℕ
network_in head n p = cond (eqb (length p) n && (starts head p && (network_at p && all_text (drop 8 p)))) (Some (network_of p)) None
