-- The same read state by state, as the machine of crate device reads it, and a machine's run over a history. What is found by eye is proved equal.
use Rattle.std.specs.Prelude.{ℕ, ◌&&◌, cond, List, [], ◌∷◌, ◌++◌, take, eqb}
use Rattle.reception.specs.declared.Line.{Line}
use Rattle.reception.specs.declared.Told.{Told}
use Rattle.reception.specs.declared.Told.TheVariants.{Nothing, Payload, Complete}
use Rattle.reception.specs.Reception.{idle, taken}
use Rattle.state.specs.State.{is_idle}
use Rattle.device.specs.Events.{Event}
use Rattle.device.specs.Events.Event.{byte, timeout, restart}
use Rattle.device.specs.Machine.{Machine, Stepped, good_packet, silent, step}
use Rattle.gathering.specs.Gathering.{placed_in}
use Rattle.history.specs.Text.{Item}
use Rattle.history.specs.Text.Item.{good, bad, can, nak}
use Rattle.history.specs.Ran.{Seen, items}
use Rattle.history.specs.Ran.Seen.{restarted}

-- what a complete packet is
abbrev pub heard_item : Line → List ℕ → ℕ → ℕ → Item
heard_item line store a b = cond (good_packet line.spoiled (take line.count store) a b) (good (take line.count store)) bad

abbrev pub told_items : Line → List ℕ → Told → List Item
told_items line store Nothing = []
told_items line store (Payload at b) = []
told_items line store (Complete a b) = heard_item line store a b ∷ []

-- what a byte completes
unfoldable pub items_at : Line → List ℕ → ℕ → List Item
items_at line store b =
    cond (is_idle line.state && eqb b 0x18) (can ∷ [])
    (cond (is_idle line.state && eqb b 0x15) (nak ∷ [])
    (told_items line store (taken line b).told))

-- what is read from a line and a reception store on
unfoldable pub read_from : Line → List ℕ → List Event → List Seen
read_from line store [] = []
read_from line store (byte b ∷ h) = items (items_at line store b) ++ read_from (taken line b).line (placed_in store (taken line b).told) h
read_from line store (timeout ∷ h) = read_from idle store h
read_from line store (restart ∷ h) = restarted ∷ read_from idle store h

abbrev pub after : List ℕ → Stepped → Stepped
after said s = record { machine = s.machine; reply = said ++ s.reply }

-- a machine's run over a history, event by event: where it ends, and the joined replies
unfoldable pub run : Machine → List Event → Stepped
run m [] = silent m
run m (e ∷ h) = after (step m e).reply (run (step m e).machine h)
