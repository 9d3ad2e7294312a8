-- The joined replies of a history (scope paper, sections Reception and Commands). Of the device it knows the events alone.
use Rattle.std.specs.Prelude.{ℕ, ◌+◌, Bool, true, false, cond, List, [], ◌∷◌, ◌++◌, ltb}
use Rattle.packet.specs.Packet.{packet_of}
use Rattle.command.specs.Command.{command_of}
use Rattle.execution.specs.CommandTable.{response_to}
use Rattle.device.specs.Events.{Event}
use Rattle.history.specs.Text.Item.{good, bad, can, nak}
use Rattle.history.specs.Ran.{Seen, seen_of, Ran}
use Rattle.history.specs.Ran.Seen.{item, restarted}
use Rattle.history.specs.Ran.Ran.{payload, restarted as ranRestart}
use Rattle.history.specs.Loads.{Open, loads_of, open_of}
use Rattle.history.specs.Loads.Open.{no_load, load}
use Rattle.history.specs.Tables.{tables_of, would_close}

abbrev pub is_open : Open → Bool
is_open no_load = false
is_open (load l) = true

-- THE RESPONSE to a payload, by the command table, for the tables and the open load of what ran before it
unfoldable pub response_after : List Ran → List ℕ → List ℕ
response_after ran p =
    response_to (command_of p) p (tables_of (loads_of ran)).versions (is_open (open_of ran)) (would_close (tables_of (loads_of ran)) (open_of ran))

-- the response that NAK asks for, and how often it was sent again
pub data Held : Type 0 where
  nothing : Held
  held : List ℕ → ℕ → Held

-- what NAK brings: the packet of the held response by itself, as long as it was sent again fewer than 3 times
abbrev pub again_said : Held → List ℕ
again_said nothing = []
again_said (held p n) = cond (ltb n 3) (packet_of p) []

abbrev pub again_held : Held → Held
again_held nothing = nothing
again_held (held p n) = cond (ltb n 3) (held p (n + 1)) (held p n)

-- a good packet is answered 06h and its response packet, which is held; a bad one 15h; CAN 04h, and nothing is held; a restart says nothing
unfoldable pub replies_from : List Ran → Held → List Seen → List ℕ
replies_from ran h [] = []
replies_from ran h (item (good p) ∷ s) = (0x06 ∷ packet_of (response_after ran p)) ++ replies_from (ran ++ (payload p ∷ [])) (held (response_after ran p) 0) s
replies_from ran h (item bad ∷ s) = 0x15 ∷ replies_from ran h s
replies_from ran h (item can ∷ s) = 0x04 ∷ replies_from ran nothing s
replies_from ran h (item nak ∷ s) = again_said h ++ replies_from ran (again_held h) s
replies_from ran h (restarted ∷ s) = replies_from (ran ++ (ranRestart ∷ [])) nothing s

-- THE JOINED REPLIES of a history
abbrev pub replies_of : List Event → List ℕ
replies_of h = replies_from [] nothing (seen_of h)
