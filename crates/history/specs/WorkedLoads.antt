-- Two table loads as they go over the line, and what they come to: one that ends, and one that a loose cable tears (docs/WORKED-LOAD.md tells them
-- packet by packet). Every check byte is written out.
use Rattle.std.specs.Prelude.{ℕ, ◌≡◌, true, false, List, [], ◌∷◌, ◌++◌, replicate}
use Prim.Native.String.{String}
use Rattle.reception.specs.Reception.{idle}
use Rattle.command.specs.Texts.{ascii}
use Rattle.execution.specs.Core.{Opening}
use Rattle.execution.specs.Core.Opening.{none, some}
use Rattle.state.specs.State.{State}
use Rattle.device.specs.Events.{Event}
use Rattle.device.specs.Events.Event.{timeout}
use Rattle.device.specs.Machine.{Machine, fresh}
use Rattle.device.specs.Machine.Holding.{holding}
use Rattle.device.specs.Between.{state_of}
use Rattle.history.specs.Ran.{ran_of}
use Rattle.history.specs.Loads.{loads_of}
use Rattle.history.specs.Tables.{tables_of}
use Rattle.history.specs.Replies.{replies_of}
use Rattle.history.specs.Calls.{bytes_then, Calls}

-- a history, its joined replies, and the machine at its end
pub record Worked : Type 0 where
  pub history : List Event
  pub replies : List ℕ
  pub end : Machine

-- what it says: replies, live records and versions as they are worked out from the history alone; and of a fresh device: whatever the calls and their
-- cut, those replies, and every byte of that machine's state, both stores too
pub record WorksOut (w : Worked) : Type 0 where
  pub replies_are : replies_of w.history ≡ w.replies
  pub records_are : (tables_of (loads_of (ran_of w.history))).records ≡ w.end.core.records
  pub versions_are : (tables_of (loads_of (ran_of w.history))).versions ≡ w.end.core.versions
  pub calls_are : {y : State} {said : List ℕ} → Calls (state_of fresh) w.history [] y said → (y ≡ state_of w.end) × (said ≡ w.replies)

-- a packet with its two check bytes, of a payload with nothing to substitute
abbrev pub framed : String → ℕ → ℕ → List ℕ
framed text a b = 0x16 ∷ (ascii text ++ (0x17 ∷ a ∷ b ∷ []))

-- 06h and a response packet
abbrev pub answered : String → ℕ → ℕ → List ℕ
answered text a b = 0x06 ∷ framed text a b

-- network 01 has this version, all others ten "0" bytes
abbrev pub versions_with : String → List ℕ
versions_with version = replicate 10 0x30 ++ (ascii version ++ replicate 980 0x30)

-- between packets, with a response held that was not sent again
abbrev pub at_rest : List ℕ → String → List (List ℕ) → List ℕ → Opening → Machine
at_rest store response records versions load =
    record { line = idle; store = store; response = holding (ascii response) 0; core = record { records = records; versions = versions; load = load } }

-- ---- a load that ends

-- GTS, TLI, TLR with one record, TLE, GTS
abbrev pub load_sent : List ℕ
load_sent =
    framed "GTS00201" 0x6b 0x5a ++ (framed "TLI01201VERSION001" 0xdb 0xa2 ++ (framed "TLR01001008101AB" 0x37 0xc2 ++ (framed "TLE" 0x47 0xe9 ++ framed "GTS00201" 0x6b 0x5a)))

abbrev pub load_said : List ℕ
load_said =
    answered "GTS0000100000000000" 0x79 0x46
    ++ (answered "TLI020" 0x13 0xd9 ++ (answered "TLR000" 0x95 0x1c ++ (answered "TLE000" 0xf6 0x92 ++ answered "GTS000010VERSION001" 0xce 0x4e)))

-- the record is live, under the new name, and no load is open; the reception store keeps what longer payloads left
unfoldable pub whole_load : Worked
whole_load =
    record {
      history = bytes_then load_sent [];
      replies = load_said;
      end = at_rest (ascii "GTS00201008101AB01" ++ replicate 2030 0x00) "GTS000010VERSION001" (ascii "008101AB" ∷ []) (versions_with "VERSION001") none;
    }

-- ---- a load that is torn

-- after that load: TLI with another version, TLR with one record, and the first bytes of a second TLR
abbrev pub torn_sent : List ℕ
torn_sent = framed "TLI01201VERSION002" 0x8e 0xf1 ++ (framed "TLR01001008101CD" 0xf3 0x04 ++ (0x16 ∷ ascii "TLR01001008"))

abbrev pub torn_said : List ℕ
torn_said = answered "TLI020" 0x13 0xd9 ++ answered "TLR000" 0x95 0x1c

-- then silence, a timeout, and GTS: the old record is live, under the old name, and the load is still open
unfoldable pub torn_load : Worked
torn_load =
    record {
      history = bytes_then (load_sent ++ torn_sent) (timeout ∷ bytes_then (framed "GTS00201" 0x6b 0x5a) []);
      replies = load_said ++ (torn_said ++ answered "GTS000010VERSION001" 0xce 0x4e);
      end = at_rest (ascii "GTS00201008101CD02" ++ replicate 2030 0x00) "GTS000010VERSION001" (ascii "008101AB" ∷ []) (versions_with "VERSION001")
          (some (record { network = 1; version = ascii "VERSION002"; kept = record { records = ascii "008101CD" ∷ []; over = false }; any = true }));
    }
