-- The two worked loads come to what is written of them. Replies, live records, versions and the machine's run are computed from the definitions; any calls of a
-- fresh device come to that run.
use mathlib.Core.Path.{◌≡◌, refl, ap, ◌∙◌}
use mathlib.Core.List.{List, [], flatten}
use Prim.Native.Nat.{ℕ}
use Rattle.answer.specs.Pieces.{pieces_from, rest_from}
use Rattle.crc16.specs.Crc.{◌⊕◌, generator, divide, remainder, odd, bits, bits_of, number, check}
use Rattle.packet.specs.Substitution.{sent, stuff, plain_then, unstuff}
use Rattle.packet.specs.Packet.{packet_of, before, read_packet}
use Rattle.records.specs.Record.{starts_record, record_in, good_block, takes}
use Rattle.records.specs.Store.{fits}
use Rattle.tables.specs.Loading.{taken, keep_one, keep_all}
use Rattle.tables.specs.Closing.{not_named, new_set, new_versions}
use Rattle.reception.specs.Reception.{placed, from_idle, from_data, taken as takenBy}
use Rattle.command.specs.Texts.{starts, all_text}
use Rattle.command.specs.Command.{gts_good, tli_good, tlr_good, command_of}
use Rattle.execution.specs.Core.{fresh_core}
use Rattle.execution.specs.CommandTable.{same, response_to}
use Rattle.execution.specs.Execute.{fed, accepts, ended, execute, response_of}
use Rattle.state.specs.State.{State}
use Rattle.device.specs.Machine.{fresh, good_packet, runs, completes, takes as takesByte, step}
use Rattle.device.specs.Between.{state_of}
use Rattle.history.specs.Text.{has, up_to, after_first, after_last, between, data_in, rest_in, found, items_in}
use Rattle.history.specs.Ran.{items, seen_from, ran_in}
use Rattle.history.specs.Loads.{open_after, closed_at, loads_from, open_from}
use Rattle.history.specs.Tables.{fresh_tables, within, loaded, tables_from}
use Rattle.history.specs.Replies.{response_after, replies_from, replies_of}
use Rattle.history.specs.Calls.{bytes_then, Calls}
use Rattle.history.specs.Reading.{run}
use Rattle.history.specs.WorkedLoads.{Worked, WorksOut, whole_load, torn_load}
use Rattle.history.proofs.LegalRuns.{fresh_legal}
use Rattle.history.proofs.Handed.{handed}
use Rattle.history.proofs.Theorems.{whole_run}
use Rattle.history.proofs.Demands.{run_replies}

-- any calls that hand over the history leave the state of the machine where its run ends, and say the replies
by_run : (w : Worked) → (run fresh w.history).machine ≡ w.end → replies_of w.history ≡ w.replies
    → {y : State} {said : List ℕ} → Calls (state_of fresh) w.history [] y said → (y ≡ state_of w.end) × (said ≡ w.replies)
by_run w e f c =
    let p = whole_run w.history (handed c fresh fresh_legal refl) in
    (p.0 ∙ ap state_of e, p.1 ∙ run_replies w.history ∙ f)

-- both, by computation
both_work : WorksOut whole_load × WorksOut torn_load
unfolding whole_load torn_load packet_of stuff sent read_packet before unstuff plain_then check number remainder divide ◌⊕◌ bits_of bits odd generator pieces_from rest_from flatten starts all_text gts_good tli_good tlr_good command_of starts_record record_in good_block takes fits taken keep_one keep_all not_named new_set new_versions same response_to fed accepts ended execute response_of fresh_core placed from_idle from_data takenBy fresh good_packet runs completes takesByte step has up_to after_first after_last between data_in rest_in found items_in items seen_from ran_in open_after closed_at loads_from open_from fresh_tables within loaded tables_from response_after replies_from bytes_then run
both_work = (
  record { replies_are = refl; records_are = refl; versions_are = refl; calls_are = by_run whole_load refl refl },
  record { replies_are = refl; records_are = refl; versions_are = refl; calls_are = by_run torn_load refl refl },
)

-- THE WHOLE LOAD
pub whole_load_lem : WorksOut whole_load
whole_load_lem = both_work.0

-- THE TORN LOAD
pub torn_load_lem : WorksOut torn_load
torn_load_lem = both_work.1
