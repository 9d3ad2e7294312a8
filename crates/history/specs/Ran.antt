-- What is seen in a history, and the payloads that run in it (scope paper, section Reception).
use Rattle.std.specs.Prelude.{ℕ, List, [], ◌∷◌, ◌++◌}
use Rattle.device.specs.Events.{Event}
use Rattle.device.specs.Events.Event.{byte, timeout, restart}
use Rattle.history.specs.Text.{Item, items_of}
use Rattle.history.specs.Text.Item.{good, bad, can, nak}

-- what stands in the texts, and the restarts between them
pub data Seen : Type 0 where
  item : Item → Seen
  restarted : Seen

unfoldable pub items : List Item → List Seen
items [] = []
items (i ∷ is) = item i ∷ items is

-- what is seen after the bytes `text` of a stretch. A stretch ends at a timeout or a restart: reception is idle then
unfoldable pub seen_from : List ℕ → List Event → List Seen
seen_from text [] = items (items_of text)
seen_from text (byte b ∷ h) = seen_from (text ++ (b ∷ [])) h
seen_from text (timeout ∷ h) = items (items_of text) ++ seen_from [] h
seen_from text (restart ∷ h) = items (items_of text) ++ (restarted ∷ seen_from [] h)

-- WHAT IS SEEN IN A HISTORY
abbrev pub seen_of : List Event → List Seen
seen_of h = seen_from [] h

-- ---- what runs

pub data Ran : Type 0 where
  payload : List ℕ → Ran
  restarted : Ran

-- a good packet's payload runs; bad packets, CAN and NAK run nothing
unfoldable pub ran_in : List Seen → List Ran
ran_in [] = []
ran_in (item (good p) ∷ s) = payload p ∷ ran_in s
ran_in (item bad ∷ s) = ran_in s
ran_in (item can ∷ s) = ran_in s
ran_in (item nak ∷ s) = ran_in s
ran_in (restarted ∷ s) = restarted ∷ ran_in s

-- THE PAYLOADS THAT RUN in a history, and the restarts
abbrev pub ran_of : List Event → List Ran
ran_of h = ran_in (seen_of h)
