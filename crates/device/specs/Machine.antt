-- The device, said without arrays: its state, what each event makes of it, and what it replies (scope paper, sections Reception and Commands).
use Rattle.std.specs.Prelude.{ℕ, suc, ◌+◌, ◌/◌, ◌%◌, Bool, true, false, not, ◌&&◌, cond, List, [], ◌∷◌, length, take, set, replicate, leb, ltb, eqb}
use Rattle.crc16.specs.Crc.{check}
use Rattle.packet.specs.Packet.{packet_of}
use Rattle.reception.specs.declared.Line.{Line}
use Rattle.reception.specs.declared.Told.{Told}
use Rattle.reception.specs.declared.Told.TheVariants.{Nothing, Payload, Complete}
use Rattle.reception.specs.Reception.{idle, taken}
use Rattle.device.specs.Events.{Event}
use Rattle.device.specs.Events.Event.{byte, timeout, restart}
use Rattle.execution.specs.Core.{Core, with_load, fresh_core}
use Rattle.execution.specs.Core.Opening.{none}
use Rattle.execution.specs.Execute.{execute, response_of}
use Rattle.state.specs.State.{is_idle}

-- the held response: its payload, and how often its packet was sent again
pub data Holding : Type 0 where
  nothing : Holding
  holding : List ℕ → ℕ → Holding

-- where the reception is; the reception store, whose first bytes are the payload so far; the held response; what commands read and change
pub record Machine : Type 0 where
  pub line : Line
  pub store : List ℕ
  pub response : Holding
  pub core : Core

-- the machine after an event, and the bytes replied
pub record Stepped : Type 0 where
  pub machine : Machine
  pub reply : List ℕ

-- A FRESH DEVICE (scope paper, section Commands, its end): the line between packets, no response held, 2,048 zero bytes to receive in, and the tables of `fresh_core`
unfoldable pub fresh : Machine
fresh = record { line = idle; store = replicate 2048 0; response = nothing; core = fresh_core }

abbrev pub on : Machine → Line → List ℕ → Machine
on m line store = record { line = line; store = store; response = m.response; core = m.core }

abbrev pub holds : Machine → Holding → Machine
holds m h = record { line = m.line; store = m.store; response = h; core = m.core }

abbrev pub silent : Machine → Stepped
silent m = record { machine = m; reply = [] }

-- ---- a complete packet

-- the payload bytes placed so far
abbrev pub payload_of : Machine → List ℕ
payload_of m = take m.line.count m.store

-- not spoiled, a payload that is not empty, and the check of that payload
unfoldable pub good_packet : Bool → List ℕ → ℕ → ℕ → Bool
good_packet spoiled p a b = not spoiled && (leb 1 (length p) && (eqb a (check p / 256) && eqb b (check p % 256)))

-- a good packet (section Reception): its payload is executed, once; 06h and the packet of its response go out, and that response is the one held from then on
unfoldable pub runs : Machine → List ℕ → Stepped
runs m p =
    record {
      machine = record { line = idle; store = m.store; response = holding (response_of m.core p) 0; core = execute m.core p };
      reply = 0x06 ∷ packet_of (response_of m.core p);
    }

-- the reply is 15h, and the held response stays
abbrev pub refuses : Machine → Stepped
refuses m = record { machine = on m idle m.store; reply = 0x15 ∷ [] }

unfoldable pub completes : Machine → ℕ → ℕ → Stepped
completes m a b = cond (good_packet m.line.spoiled (payload_of m) a b) (runs m (payload_of m)) (refuses m)

-- ---- one event

-- what reception makes of a byte: nothing to keep, a payload byte for its place in the store, or a complete packet
abbrev pub hears : Machine → Line → Told → Stepped
hears m line Nothing = silent (on m line m.store)
hears m line (Payload at b) = silent (on m line (set m.store at b))
hears m line (Complete a b) = completes m a b

-- CAN between packets: 04h, and the held response is forgotten
abbrev pub cancels : Machine → Stepped
cancels m = record { machine = holds m nothing; reply = 0x04 ∷ [] }

-- NAK between packets: the held response packet again, without 06h and at most 3 times; else it is ignored
unfoldable pub again : Machine → Holding → Stepped
again m nothing = silent m
again m (holding p n) = cond (ltb n 3) (record { machine = holds m (holding p (n + 1)); reply = packet_of p }) (silent m)

-- CAN and NAK are such only between packets; every other byte is reception's
unfoldable pub takes : Machine → ℕ → Stepped
takes m b =
    cond (is_idle m.line.state && eqb b 0x18) (cancels m)
    (cond (is_idle m.line.state && eqb b 0x15) (again m m.response)
    (hears m (taken m.line b).line (taken m.line b).told))

-- a restart (section Reception, its last event): what was being received, held or loaded is gone; what is live, and the versions' names, are not touched
abbrev pub restarted : Machine → Machine
restarted m = record { line = idle; store = m.store; response = nothing; core = with_load m.core none }

-- ONE EVENT. A timeout only makes reception idle
unfoldable pub step : Machine → Event → Stepped
step m (byte b) = takes m b
step m timeout = silent (on m idle m.store)
step m restart = silent (restarted m)

-- ---- one call

-- what a call leaves, how many bytes it took, and what it replied
pub record Called : Type 0 where
  pub machine : Machine
  pub taken : ℕ
  pub reply : List ℕ

abbrev pub is_none : List ℕ → Bool
is_none [] = true
is_none (b ∷ bs) = false

abbrev pub one_more : Called → Called
one_more c = record { machine = c.machine; taken = suc c.taken; reply = c.reply }

-- ONE CALL takes the bytes of a piece up to the one that completes a reply, or all; it tells how many
unfoldable pub call : Machine → List ℕ → Called
call m [] = record { machine = m; taken = 0; reply = [] }
call m (b ∷ bs) =
    let s = step m (byte b) in
    cond (is_none s.reply) (one_more (call s.machine bs)) (record { machine = s.machine; taken = 1; reply = s.reply })
