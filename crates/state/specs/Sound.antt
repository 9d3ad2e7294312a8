-- The refusals of a device call, in their order, and the rules that a state is judged by, on present contents alone (scope paper, section Numbered
-- refusals of calls).
use Rattle.std.specs.Prelude.{ℕ, Bool, not, ◌&&◌, cond, List, length, take, drop, leb, ltb, eqb}
use Rattle.records.specs.Store.{all_zero}
use Rattle.execution.specs.Responses.{is_response}
use Rattle.execution.specs.Stored.{sound_tables}
use Rattle.state.specs.declared.Held.{Held}
use Rattle.state.specs.declared.Device.{Device}
use Rattle.state.specs.State.{State, stored_in, is_idle}

-- refusal 2: both stores are 32,768 bytes
abbrev pub both_sized : List ℕ → List ℕ → Bool
both_sized live loading = eqb (length live) 32768 && eqb (length loading) 32768

unfoldable pub is_sized : State → Bool
is_sized x = both_sized x.live x.loading

-- between packets no payload byte is placed and nothing is spoiled; in a packet at most 2,048 bytes are placed
unfoldable pub line_sound : Device → Bool
line_sound d = cond (is_idle d.reception) (eqb d.count 0 && not d.spoiled) (leb d.count 2048)

-- a held response is one that the command table or ERR010 gives, sent again at most 3 times; nothing held is all 0. Bytes after it are 0
unfoldable pub held_sound : Held → Bool
held_sound h =
    leb h.response.length 19
    && (all_zero (drop h.response.length h.response.payload)
    && cond (eqb h.response.length 0)
    (eqb h.times 0)
    (is_response (take h.response.length h.response.payload) && leb h.times 3))

-- REFUSAL 3 is for a state that breaks one of these; the rules on tables, versions, load and both stores are `sound_tables`
unfoldable pub sound : State → Bool
sound x = line_sound x.device && (held_sound x.device.held && sound_tables (stored_in x))

-- THE ORDER: 1 for room under 64, then 2, then 3; 0 where the call is not refused
unfoldable pub refusal_of : ℕ → State → ℕ
refusal_of room x = cond (ltb room 64) 1 (cond (not (is_sized x)) 2 (cond (not (sound x)) 3 0))
