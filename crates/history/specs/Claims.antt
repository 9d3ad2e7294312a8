-- DEMAND 3 as it is stated, and the terms of the theorems beside it.
use Rattle.std.specs.Prelude.{◌≡◌, List, [], ◌∷◌, ◌++◌, ℕ, ◌≤◌, length}
use Rattle.execution.specs.Core.{Core, with_load, fresh_core}
use Rattle.execution.specs.Core.Opening.{none}
use Rattle.execution.specs.Execute.{execute}
use Rattle.device.specs.Events.{Event}
use Rattle.device.specs.Machine.{Machine, step, call}
use Rattle.history.specs.Ran.{Ran, ran_of}
use Rattle.history.specs.Ran.Ran.{payload, restarted as ranRestart}
use Rattle.records.specs.Store.{store_of}
use Rattle.execution.specs.Stored.{extent_of, core_of}
use Rattle.state.specs.State.{State, stored_in}
use Rattle.state.specs.Sound.{refusal_of}
use Rattle.device.specs.Between.{state_of}
use Rattle.history.specs.Loads.{loads_of}
use Rattle.history.specs.Tables.{tables_of}
use Rattle.history.specs.Replies.{replies_of}
use Rattle.history.specs.Calls.{Calls}
use Rattle.answer.specs.Answers.{over}
use Rattle.device.specs.Promise.{Received, Left, Answers}

-- a payload is executed; a restart drops the open load
unfoldable pub perform : Core → Ran → Core
perform c (payload p) = execute c p
perform c ranRestart = with_load c none

-- and so for all that ran, in order and each once
unfoldable pub perform_all : Core → List Ran → Core
perform_all c [] = c
perform_all c (r ∷ rs) = perform_all (perform c r) rs

-- what is so once the events `prefix` of a history were handed over
pub record Comes (prefix : List Event) (y : State) (said : List ℕ) : Type 0 where
  -- the joined replies
  pub replies : said ≡ replies_of prefix
  -- every byte of the live store, and its extent: the records that the finished loads give, and zeros
  pub live_is : y.live ≡ store_of 32768 (tables_of (loads_of (ran_of prefix))).records
  pub extent_is : y.device.tables.live ≡ extent_of (tables_of (loads_of (ran_of prefix))).records
  -- every byte of the version store
  pub versions_are : y.device.tables.versions ≡ (tables_of (loads_of (ran_of prefix))).versions
  -- ONCE: tables, versions and open load are what the payloads that run make of them, in order and each once
  pub executed_are : core_of (stored_in y) ≡ perform_all fresh_core (ran_of prefix)
  -- NEVER REFUSED: the next call with room of 64 is not
  pub accepts : (room : ℕ) → 64 ≤ room → refusal_of room y ≡ 0

-- DEMAND 3 at any moment of handing over the history h, of which `rest` is still to come
pub record DemandThree (h rest : List Event) (y : State) (said : List ℕ) : Type 0 where
  -- what was handed over so far
  pub prefix : List Event
  pub splits : h ≡ prefix ++ rest
  pub comes : Comes prefix y said

-- ---- every history can be handed over

-- calls that hand over all of a history: the state that they leave, and what they wrote, joined
pub record Covered (x : State) (h : List Event) : Type 0 where
  pub last : State
  pub said : List ℕ
  pub calls : Calls x h [] last said

-- the answer of a call that is not refused
abbrev pub answer_for : Left → Received
answer_for left = record { device = left.state.device; refusal = 0; taken = left.taken; written = length left.reply }

-- of a call that would leave `left`, the promise allows that answer, with l left and its reply laid over `out`
abbrev pub Allows : State → Left → Left → List ℕ → Type 0
Allows x left l out = Answers x left out (answer_for l) (over l.reply out) l.state.live l.state.loading

-- what the machine's call leaves of a piece, and what its step leaves of a timeout or a restart
abbrev pub piece_left : Machine → List ℕ → Left
piece_left m piece = record { state = state_of (call m piece).machine; taken = (call m piece).taken; reply = (call m piece).reply }

abbrev pub event_left : Machine → Event → Left
event_left m e = record { state = state_of (step m e).machine; taken = 0; reply = (step m e).reply }
