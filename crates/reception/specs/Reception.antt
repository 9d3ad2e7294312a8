-- What each byte of the line makes of the reception (scope paper, section Reception, but for commands and replies).
use Rattle.std.specs.Prelude.{ℕ, ◌+◌, Bool, true, false, cond, leb, eqb}
use Rattle.reception.specs.declared.Reception.{Reception}
use Rattle.reception.specs.declared.Reception.TheVariants.{Idle, InData, After13h, FirstCheck, SecondCheck}
use Rattle.reception.specs.declared.Line.{Line}
use Rattle.reception.specs.declared.Told.{Told}
use Rattle.reception.specs.declared.Told.TheVariants.{Nothing, Payload, Complete}
use Rattle.reception.specs.declared.Took.{Took}

-- a reception in a state, with whether its packet is spoiled and how many payload bytes have a place
abbrev pub line_of : Reception → Bool → ℕ → Line
line_of state spoiled count = record { state = state; spoiled = spoiled; count = count }

abbrev pub took_of : Line → Told → Took
took_of line told = record { line = line; told = told }

-- between packets
abbrev pub idle : Line
idle = line_of Idle false 0

-- 16h starts a packet, and in data starts it afresh: unspoiled, with no payload
abbrev pub started : Took
started = took_of (line_of InData false 0) Nothing

-- the packet goes on in another state
abbrev pub going_on : Line → Reception → Took
going_on line state = took_of (line_of state line.spoiled line.count) Nothing

-- it is spoiled, and goes on in another state
abbrev pub spoiled_in : Line → Reception → Took
spoiled_in line state = took_of (line_of state true line.count) Nothing

-- a payload byte goes to its place, in a spoiled packet too; past 2,048 bytes it has none and spoils the packet
unfoldable pub placed : Line → ℕ → Took
placed line b =
    cond (leb 2048 line.count) (spoiled_in line InData)
    (took_of (line_of InData line.spoiled (line.count + 1)) (Payload line.count b))

-- IDLE: all bytes but 16h leave it idle (18h and 15h are answered by the caller)
unfoldable pub from_idle : Line → ℕ → Took
from_idle line b = cond (eqb b 0x16) started (going_on line Idle)

-- a raw 16h starts the packet afresh, in data and right after 13h too
abbrev pub afresh : ℕ → Took → Took
afresh b more = cond (eqb b 0x16) started more

-- IN DATA: 17h ends the data and 13h opens a pair; every other byte, 18h, 15h, 06h and 04h too, is payload
unfoldable pub from_data : Line → ℕ → Took
from_data line b =
    afresh b
    (cond (eqb b 0x17) (going_on line FirstCheck)
    (cond (eqb b 0x13) (going_on line After13h)
    (placed line b)))

-- IN DATA AFTER 13h: 17h ends the data and spoils the packet; 33h, 36h and 37h close a pair; any other byte, 13h too, spoils the packet and is dropped
unfoldable pub from13h : Line → ℕ → Took
from13h line b =
    afresh b
    (cond (eqb b 0x17) (spoiled_in line FirstCheck)
    (cond (eqb b 0x33) (placed line 0x13)
    (cond (eqb b 0x36) (placed line 0x16)
    (cond (eqb b 0x37) (placed line 0x17)
    (spoiled_in line InData)))))

-- the second check byte completes the packet, and the line is idle again
abbrev pub completed : ℕ → ℕ → Took
completed first second = took_of idle (Complete first second)

-- a byte in each of the five states; a check byte may have any value
abbrev pub taken_in : Reception → Line → ℕ → Took
taken_in Idle line b = from_idle line b
taken_in InData line b = from_data line b
taken_in After13h line b = from13h line b
taken_in FirstCheck line b = going_on line (SecondCheck b)
taken_in (SecondCheck first) line b = completed first b

-- ONE BYTE OF THE LINE
unfoldable pub taken : Line → ℕ → Took
taken line b = taken_in line.state line b
