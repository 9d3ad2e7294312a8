-- What the codec calls' crates prove of a success, said of the calls in C: what is written and then read, or read and then written, and what picking wrote.
use mathlib.Core.Path.{◌≡◌, refl, sym, ap, ◌∙◌}
use mathlib.Core.Bool.{Bool, true}
use mathlib.Core.List.{List}
use Prim.Native.Nat.{ℕ, ◌+◌, ◌-◌, ◌≤◌}
use lib.ListN.{length, take, drop}
use Rattle.std.specs.Prelude.{Result, Ok, Err, None}
use Rattle.answer.specs.declared.refusal.Refusal.{Refusal}
use Rattle.answer.specs.Answers.{Output, within, answer_of, over}
use Rattle.answer.specs.Answers.{Gives as GivesOutput}
use Rattle.answer.proofs.Promises.{some_number}
use Rattle.packet.specs.Packet.{write_packet, read_packet}
use Rattle.packet.proofs.Theorems.{write_then_read as packet_back, read_then_write as packet_again}
use Rattle.message.specs.Blocks.{blocks_of, greedy}
use Rattle.message.specs.Message.{read_message, write_message, body_of, head_of}
use Rattle.message.proofs.Theorems.{write_then_read as message_back, read_then_write as message_again}
use Rattle.objects.specs.declared.ObjectRead.{ObjectRead}
use Rattle.objects.specs.LengthForm.{form_of}
use Rattle.objects.specs.Object.{write_object, read_of}
use Rattle.objects.specs.Claims.{AllBytes}
use Rattle.objects.proofs.Promises.{write_then_read as object_back, tag_written as tag_back, value_written as value_back, read_then_write as object_again}
use Rattle.picking.specs.Lists.{objects_of, objects_refusal}
use Rattle.picking.specs.Pick.{picked_of, pick}
use Rattle.picking.specs.Claims.{NoneWithheld}
use Rattle.picking.proofs.Promises.{pick_writes as pick_wrote, pick_withholds as pick_withheld}
use Rattle.abecs.specs.declared.numbered.Answer.{Answer}
use Rattle.abecs.specs.declared.numbered.ObjectOf.{ObjectOf}
use Rattle.abecs.specs.Numbered.{Gives, answer_as, object_as}

-- ---- an answer by number stands for one of the crates' answers

-- whatever a call in C answers, the call behind it answered
behind : (output : Output) (out : List ℕ) (r : Answer) (out' : List ℕ) → Gives output out r out' → GivesOutput output out (answer_of (within (length out) output)) out'
behind output out r out' g = record { answer = refl; bytes = g.bytes }

told_back : (x : Result ℕ Refusal) (r : Answer) → r ≡ answer_as x → r.refusal ≡ 0 → (let a : Result ℕ Refusal = Ok r.length in a) ≡ x
told_back (Ok n) r e z = ap (λ (q : Answer). let a : Result ℕ Refusal = Ok q.length in a) e
told_back (Err k) r e z = absurd (some_number k (sym (ap (λ (q : Answer). q.refusal) e) ∙ z))

-- A SUCCESS: the number 0 says that the call behind answered the length
pub given_back : (output : Output) (out : List ℕ) (r : Answer) (out' : List ℕ) → Gives output out r out' → r.refusal ≡ 0 → GivesOutput output out (Ok r.length) out'
given_back output out r out' g z = record { answer = told_back (answer_of (within (length out) output)) r g.answer z; bytes = g.bytes }

abbrev pub object_in : ObjectOf → ObjectRead
object_in r = record { tag = r.tag; header = r.header; whole = r.whole }

pub object_told : (x : Result ObjectRead Refusal) (r : ObjectOf) → r ≡ object_as x → r.refusal ≡ 0 → (let a : Result ObjectRead Refusal = Ok (object_in r) in a) ≡ x
object_told (Ok o) r e z = ap (λ (q : ObjectOf). let a : Result ObjectRead Refusal = Ok (object_in q) in a) e
object_told (Err k) r e z = absurd (some_number k (sym (ap (λ (q : ObjectOf). q.refusal) e) ∙ z))

-- a later call's answer, from what the call behind it answered
told : (output : Output) (p buf : List ℕ) (s : Answer) (buf' : List ℕ) → Gives output buf s buf'
    → (answer_of (within (length buf) output) ≡ answer_of (Ok p)) × (buf' ≡ over p buf) → (s ≡ record { refusal = 0; length = length p }) × (buf' ≡ over p buf)
told output p buf s buf' g h = (g.answer ∙ ap answer_as h.0, h.1)

-- ---- packets

pub write_then_read_packet : (p out : List ℕ) (r : Answer) (out' buf : List ℕ) (s : Answer) (buf' : List ℕ)
    → Gives (write_packet p) out r out' → r.refusal ≡ 0 → length p ≤ length buf → Gives (read_packet (take r.length out')) buf s buf'
    → (s ≡ record { refusal = 0; length = length p }) × (buf' ≡ over p buf)
write_then_read_packet p out r out' buf s buf' w z room g =
    let output = read_packet (take r.length out') in
    told output p buf s buf' g (packet_back p out r.length out' buf _ buf' (given_back (write_packet p) out r out' w z) room (behind output buf s buf' g))

pub read_then_write_packet : (b out : List ℕ) (r : Answer) (out' buf : List ℕ) (s : Answer) (buf' : List ℕ)
    → Gives (read_packet b) out r out' → r.refusal ≡ 0 → length b ≤ length buf → Gives (write_packet (take r.length out')) buf s buf'
    → (s ≡ record { refusal = 0; length = length b }) × (buf' ≡ over b buf)
read_then_write_packet b out r out' buf s buf' w z room g =
    let output = write_packet (take r.length out') in
    told output b buf s buf' g (packet_again b out r.length out' buf _ buf' (given_back (read_packet b) out r out' w z) room (behind output buf s buf' g))

-- ---- messages

pub write_then_read_message : (head : List ℕ) (response : Bool) (list out : List ℕ) (r : Answer) (out' buf : List ℕ) (s : Answer) (buf' : List ℕ)
    → Gives (write_message head response list) out r out' → r.refusal ≡ 0 → length list ≤ length buf → Gives (read_message response (take r.length out')) buf s buf'
    → (s ≡ record { refusal = 0; length = length list }) × (buf' ≡ over list buf)
write_then_read_message head response list out r out' buf s buf' w z room g =
    let output = read_message response (take r.length out') in
    told output list buf s buf' g
    (message_back head response list out r.length out' buf _ buf' (given_back (write_message head response list) out r out' w z) room (behind output buf s buf' g))

pub read_then_write_message : (response : Bool) (m out : List ℕ) (r : Answer) (out' buf : List ℕ) (s : Answer) (buf' : List ℕ)
    → greedy (blocks_of (body_of response m)) ≡ true → Gives (read_message response m) out r out' → r.refusal ≡ 0 → length m ≤ length buf
    → Gives (write_message (head_of response m) response (take r.length out')) buf s buf' → (s ≡ record { refusal = 0; length = length m }) × (buf' ≡ over m buf)
read_then_write_message response m out r out' buf s buf' filled w z room g =
    let output = write_message (head_of response m) response (take r.length out') in
    told output m buf s buf' g
    (message_again response m out r.length out' buf _ buf' filled (given_back (read_message response m) out r out' w z) room (behind output buf s buf' g))

-- ---- objects

module _ (tag value out : List ℕ) (r : Answer) (out' : List ℕ) (w : Gives (write_object tag value) out r out') (z : r.refusal ≡ 0) where
  back : GivesOutput (write_object tag value) out (Ok r.length) out'
  back = given_back (write_object tag value) out r out' w z

  pub write_then_read_object : (s : ObjectOf) → s ≡ object_as (read_of (take r.length out'))
      → s ≡ record { refusal = 0; tag = length tag; header = length tag + length (form_of (length value)); whole = r.length }
  write_then_read_object s e = e ∙ ap object_as (object_back tag value out r.length out' back (read_of (take r.length out')) refl)

  pub tag_written : take (length tag) (take r.length out') ≡ tag
  tag_written = tag_back tag value out r.length out' back

  pub value_written : drop (length tag + length (form_of (length value))) (take r.length out') ≡ value
  value_written = value_back tag value out r.length out' back

pub read_then_write_object : (input : List ℕ) → AllBytes input → (r : ObjectOf) → r ≡ object_as (read_of input) → r.refusal ≡ 0 → (out : List ℕ) (a : Answer) (out' : List ℕ)
    → Gives (write_object (take r.tag input) (take (r.whole - r.header) (drop r.header input))) out a out' → r.whole ≤ length out
    → (a ≡ record { refusal = 0; length = length (take r.whole input) }) × (out' ≡ over (take r.whole input) out)
read_then_write_object input bytes r e z out a out' g room =
    let output = write_object (take r.tag input) (take (r.whole - r.header) (drop r.header input)) in
    told output (take r.whole input) out a out' g
    (object_again input bytes (object_in r) (object_told (read_of input) r e z) out _ out' (behind output out a out' g) room)

-- ---- picking

module _ (tags objects out : List ℕ) (r : Answer) (out' : List ℕ) (w : Gives (pick tags objects) out r out') (z : r.refusal ≡ 0) where
  picked_back : GivesOutput (pick tags objects) out (Ok r.length) out'
  picked_back = given_back (pick tags objects) out r out' w z

  pub pick_writes : take r.length out' ≡ picked_of tags objects
  pick_writes = pick_wrote tags objects out r.length out' picked_back

  pub pick_withholds : AllBytes objects → (objects_refusal (take r.length out') ≡ None) × NoneWithheld (objects_of (take r.length out'))
  pick_withholds = pick_withheld tags objects out r.length out' picked_back
