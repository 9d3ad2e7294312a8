-- What holds of messages: a list comes back from its message, and a message whose blocks were filled greedily from its list.
use mathlib.Core.Path.{◌≡◌, sym, ap, ◌∙◌, refl, subst}
use mathlib.Core.Bool.{Bool, true, false, ◌&&◌, cond}
use mathlib.Core.List.{List, ◌++◌, map, flatten}
use Prim.Native.Nat.{ℕ, ◌≤◌}
use lib.ListN.{length, take, take-append-drop}
use lib.Seq.{take_at, drop_at}
use lib.Dec.{ltb}
use borrow.Author.Tests.{le-ltb, ltb-false}
use Rattle.std.specs.Prelude.{Result, Ok, Err}
use Rattle.answer.specs.declared.refusal.Refusal.{Refusal}
use Rattle.answer.specs.declared.refusal.Refusal.TheVariants.{TooLong, NoMessage, NoParameter, LongParameter, LongMessage}
use Rattle.answer.specs.Answers.{Output, Gives, answer_of, over}
use Rattle.answer.specs.Pieces.{whole, every}
use Rattle.answer.proofs.Promises.{gives_one, same_good, not_good, success}
use Rattle.parameters.specs.Parameters.{parameters, whole_list}
use Rattle.message.specs.Blocks.{block_in, blocks_of, block_of, fill, greedy}
use Rattle.message.specs.Message.{head_length, head_good, head_of, body_of, read_message, message_of, short, message_sized, write_message}
use Rattle.parameters.proofs.Parameters.{all_whole, join_whole}
use Rattle.message.proofs.Blocks.{written_whole, written_blocks, body_again}
use Rattle.message.proofs.Filling.{fill_sized, fill_lists, fill_greedy, flatten_fill, fill_again, join_short}
use Rattle.message.proofs.Heads.{head_long}
use Rattle.message.proofs.Judging.{write_fit, sized_good}

-- ---- each promise allows one result

pub read_message_one : (response : Bool) (m out : List ℕ) (r s : Result ℕ Refusal) (o o' : List ℕ) → Gives (read_message response m) out r o → Gives (read_message response m) out s o' → (r ≡ s) × (o ≡ o')
read_message_one response m = gives_one (read_message response m)

pub write_message_one : (head : List ℕ) (response : Bool) (list out : List ℕ) (r s : Result ℕ Refusal) (o o' : List ℕ)
    → Gives (write_message head response list) out r o → Gives (write_message head response list) out s o' → (r ≡ s) × (o ≡ o')
write_message_one head response list = gives_one (write_message head response list)

-- ---- what a call that succeeds was given

record Written (head : List ℕ) (response : Bool) (list m : List ℕ) : Type 0 where
  headed : head_good response head ≡ true
  good : whole_list list ≡ true
  fit : every short (parameters list) ≡ true
  long : length (message_of head list) ≤ 2048
  is : message_of head list ≡ m

written : (head : List ℕ) (response : Bool) (list m : List ℕ) → write_message head response list ≡ Ok m → Written head response list m
unfolding write_message
written head response list m = cases (head_good response head) (whole_list list) (every short (parameters list)) (ltb 2048 (length (message_of head list))) refl refl refl refl
  where
    cases : (a b c d : Bool) → head_good response head ≡ a → whole_list list ≡ b → every short (parameters list) ≡ c → ltb 2048 (length (message_of head list)) ≡ d
        → cond a (cond b (cond c (cond d (Err LongMessage) (Ok (message_of head list))) (Err LongParameter)) (Err NoParameter)) (Err NoMessage) ≡ Ok m → Written head response list m
    cases true true true false ea eb ec ed e = record { headed = ea; good = eb; fit = ec; long = ltb-false 2048 (length (message_of head list)) ed; is = same_good e }
    cases true true true true ea eb ec ed e = absurd (not_good e)
    cases true true false d ea eb ec ed e = absurd (not_good e)
    cases true false c d ea eb ec ed e = absurd (not_good e)
    cases false b c d ea eb ec ed e = absurd (not_good e)

record WasRead (response : Bool) (m list : List ℕ) : Type 0 where
  long : length m ≤ 2048
  headed : head_good response (head_of response m) ≡ true
  blocks : whole block_in (body_of response m) ≡ true
  lists : every whole_list (blocks_of (body_of response m)) ≡ true
  is : flatten (blocks_of (body_of response m)) ≡ list

was_read : (response : Bool) (m list : List ℕ) → read_message response m ≡ Ok list → WasRead response m list
unfolding read_message
was_read response m list =
    cases (ltb 2048 (length m)) (head_good response (head_of response m)) (whole block_in (body_of response m)) (every whole_list (blocks_of (body_of response m))) refl refl refl refl
  where
    cases : (a b c d : Bool) → ltb 2048 (length m) ≡ a → head_good response (head_of response m) ≡ b → whole block_in (body_of response m) ≡ c
        → every whole_list (blocks_of (body_of response m)) ≡ d
        → cond a (Err TooLong) (cond (b && c) (cond d (Ok (flatten (blocks_of (body_of response m)))) (Err NoParameter)) (Err NoMessage)) ≡ Ok list → WasRead response m list
    cases false true true true ea eb ec ed e = record { long = ltb-false 2048 (length m) ea; headed = eb; blocks = ec; lists = ed; is = same_good e }
    cases true b c d ea eb ec ed e = absurd (not_good e)
    cases false false c d ea eb ec ed e = absurd (not_good e)
    cases false true false d ea eb ec ed e = absurd (not_good e)
    cases false true true false ea eb ec ed e = absurd (not_good e)

reads : (response : Bool) (m : List ℕ) → length m ≤ 2048 → head_good response (head_of response m) ≡ true → whole block_in (body_of response m) ≡ true
    → every whole_list (blocks_of (body_of response m)) ≡ true → read_message response m ≡ Ok (flatten (blocks_of (body_of response m)))
unfolding read_message
reads response m h a b c = rw (le-ltb 2048 (length m) h, a, b, c) refl

-- ---- there and back

-- what stands after the head of a message that is written
written_body : (head : List ℕ) (response : Bool) (list : List ℕ) → head_good response head ≡ true → body_of response (message_of head list) ≡ flatten (map block_of (fill list))
unfolding message_of
written_body head response list h = drop_at head (flatten (map block_of (fill list))) (head_length response) (head_long head response h)

-- LIST TO MESSAGE TO LIST, always
pub list_back : (head : List ℕ) (response : Bool) (list m : List ℕ) → write_message head response list ≡ Ok m → read_message response m ≡ Ok list
unfolding message_of
list_back head response list m e =
    let w = written head response list m e in
    let b = flatten (map block_of (fill list)) in
    let top : head_of response (head ++ b) ≡ head = take_at head b (head_length response) (head_long head response w.headed) in
    let body : body_of response (head ++ b) ≡ b = written_body head response list w.headed in
    let bs : blocks_of (body_of response (head ++ b)) ≡ fill list = ap blocks_of body ∙ written_blocks (fill list) (fill_sized list) in
    ap (read_message response) (sym w.is)
    ∙ reads response (head ++ b) w.long (ap (head_good response) top ∙ w.headed) (ap (whole block_in) body ∙ written_whole (fill list) (fill_sized list))
    (ap (every whole_list) bs ∙ fill_lists list)
    ∙ ap Ok (ap flatten bs ∙ flatten_fill list w.good w.fit)

-- READ, THEN WRITTEN: a message whose blocks are greedy is the one that its list is written as
pub message_back : (response : Bool) (m list : List ℕ) → read_message response m ≡ Ok list → greedy (blocks_of (body_of response m)) ≡ true
    → write_message (head_of response m) response list ≡ Ok m
unfolding message_of
message_back response m list e g =
    let r = was_read response m list e in
    let bs = blocks_of (body_of response m) in
    let again = body_again (body_of response m) r.blocks in
    let w = all_whole bs r.lists in
    let filled_so : fill list ≡ bs = ap fill (sym r.is) ∙ fill_again bs w again.1 g in
    let same : message_of (head_of response m) list ≡ m =
    ap (λ (x : List (List ℕ)). head_of response m ++ flatten (map block_of x)) filled_so ∙ ap (λ (l : List ℕ). head_of response m ++ l) again.0
    ∙ take-append-drop (head_length response) m in
    write_fit (head_of response m) response list r.headed (ap whole_list (sym r.is) ∙ join_whole bs w)
    (ap (λ (l : List ℕ). every short (parameters l)) (sym r.is) ∙ join_short bs w again.1)
    ∙ ap message_sized same ∙ sized_good m r.long

-- and no other message comes back: the blocks that the writer gives were filled that way
pub written_greedily : (head : List ℕ) (response : Bool) (list m : List ℕ) → write_message head response list ≡ Ok m → greedy (blocks_of (body_of response m)) ≡ true
written_greedily head response list m e =
    let w = written head response list m e in
    ap (λ (x : List ℕ). greedy (blocks_of (body_of response x))) (sym w.is)
    ∙ ap greedy (ap blocks_of (written_body head response list w.headed) ∙ written_blocks (fill list) (fill_sized list)) ∙ fill_greedy list w.good w.fit

-- two lists of which the writer makes one message are one
pub one_list : (head head' : List ℕ) (response : Bool) (list list' m : List ℕ) → write_message head response list ≡ Ok m → write_message head' response list' ≡ Ok m → list ≡ list'
one_list head head' response list list' m e f = same_good (sym (list_back head response list m e) ∙ list_back head' response list' m f)

-- ---- the calls: what was written reads back

-- what a call answers and leaves in its buffer, where its definition gives s and there is room for it
given : (s : List ℕ) (output : Output) (buf : List ℕ) (r : Result ℕ Refusal) (buf' : List ℕ) → output ≡ Ok s → length s ≤ length buf → Gives output buf r buf'
    → (r ≡ answer_of (Ok s)) × (buf' ≡ over s buf)
given s output buf r buf' e room g =
    let h = subst (λ (x : Output). Gives x buf r buf') e g in
    let t = le-ltb (length buf) (length s) room in
    (h.answer ∙ rw t refl, h.bytes ∙ rw t refl)

-- LIST TO MESSAGE TO LIST, as calls: the same list comes back
pub write_then_read : (head : List ℕ) (response : Bool) (list out : List ℕ) (n : ℕ) (out' buf : List ℕ) (s : Result ℕ Refusal) (buf' : List ℕ)
    → Gives (write_message head response list) out (Ok n) out' → length list ≤ length buf
    → Gives (read_message response (take n out')) buf s buf' → (s ≡ answer_of (Ok list)) × (buf' ≡ over list buf)
write_then_read head response list out n out' buf s buf' w room g =
    let d = success (write_message head response list) out n out' w in
    given list (read_message response (take n out')) buf s buf' (ap (read_message response) d.bytes ∙ list_back head response list d.given d.is) room g

-- MESSAGE TO LIST TO MESSAGE, as calls, where the blocks were filled that way: the same message comes back
pub read_then_write : (response : Bool) (m out : List ℕ) (n : ℕ) (out' buf : List ℕ) (s : Result ℕ Refusal) (buf' : List ℕ)
    → greedy (blocks_of (body_of response m)) ≡ true → Gives (read_message response m) out (Ok n) out' → length m ≤ length buf
    → Gives (write_message (head_of response m) response (take n out')) buf s buf' → (s ≡ answer_of (Ok m)) × (buf' ≡ over m buf)
read_then_write response m out n out' buf s buf' filled w room g =
    let d = success (read_message response m) out n out' w in
    given m (write_message (head_of response m) response (take n out')) buf s buf'
    (ap (write_message (head_of response m) response) d.bytes ∙ message_back response m d.given d.is filled) room g
