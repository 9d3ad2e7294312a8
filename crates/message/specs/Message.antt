-- Messages, read and written (scope paper, sections Blocks and parameters and Numbered refusals of calls).
use Rattle.std.specs.Prelude.{ℕ, Bool, true, ◌&&◌, cond, length, get_or, take, drop, leb, ltb, eqb, Ok, Err}
use mathlib.Core.List.{List, ◌++◌, map, flatten}
use Rattle.answer.specs.declared.refusal.Refusal.TheVariants.{TooLong, NoMessage, NoParameter, LongParameter, LongMessage}
use Rattle.answer.specs.Answers.{Output}
use Rattle.answer.specs.Digits.{is_digit}
use Rattle.answer.specs.Pieces.{whole, every}
use Rattle.parameters.specs.Parameters.{parameters, whole_list, data_of}
use Rattle.message.specs.Blocks.{block_in, blocks_of, block_of, fill}

-- ---- the head: three name bytes, 41h to 5Ah, and in a response three status digits

abbrev pub is_name : ℕ → Bool
is_name b = leb 0x41 b && leb b 0x5a

abbrev pub head_length : Bool → ℕ
head_length response = cond response 6 3

abbrev pub names_good : List ℕ → Bool
names_good head = is_name (get_or head 0 0) && (is_name (get_or head 1 0) && is_name (get_or head 2 0))

abbrev pub status_good : List ℕ → Bool
status_good head = is_digit (get_or head 3 0) && (is_digit (get_or head 4 0) && is_digit (get_or head 5 0))

-- these bytes are the whole head of a command, or of a response
unfoldable pub head_good : Bool → List ℕ → Bool
head_good response head = eqb (length head) (head_length response) && (names_good head && cond response (status_good head) true)

-- the head of a message, and what stands after it
abbrev pub head_of : Bool → List ℕ → List ℕ
head_of response m = take (head_length response) m

abbrev pub body_of : Bool → List ℕ → List ℕ
body_of response m = drop (head_length response) m

-- ---- reading

-- a head, and then blocks and nothing else; refusal 20 where this is false
abbrev pub framed : Bool → List ℕ → Bool
framed response m = head_good response (head_of response m) && whole block_in (body_of response m)

-- the blocks joined to one list, if each of them is whole parameters by itself (none crosses a block); else 21
abbrev pub list_read : List ℕ → Output
list_read body = cond (every whole_list (blocks_of body)) (Ok (flatten (blocks_of body))) (Err NoParameter)

-- THE READER: 11, then 20 over all blocks, then 21 (and 1, by the promise)
unfoldable pub read_message : Bool → List ℕ → Output
read_message response m =
    cond (ltb 2048 (length m)) (Err TooLong)
    (cond (framed response m) (list_read (body_of response m)) (Err NoMessage))

-- ---- writing

-- THE MESSAGE of a head and a list: the head, and the blocks that the list fills
unfoldable pub message_of : List ℕ → List ℕ → List ℕ
message_of head list = head ++ flatten (map block_of (fill list))

-- the data goes into one block; refusal 22 where this is false of a parameter
abbrev pub short : List ℕ → Bool
short p = leb (length (data_of p)) 995

-- refusal 23: a message has at most 2,048 bytes
abbrev pub message_sized : List ℕ → Output
message_sized m = cond (ltb 2048 (length m)) (Err LongMessage) (Ok m)

-- THE WRITER: 20 for the head, 21 over the whole list, then 22, then 23 (and 1, by the promise)
unfoldable pub write_message : List ℕ → Bool → List ℕ → Output
write_message head response list =
    cond (head_good response head)
    (cond (whole_list list)
    (cond (every short (parameters list))
    (message_sized (message_of head list))
    (Err LongParameter))
    (Err NoParameter))
    (Err NoMessage)
