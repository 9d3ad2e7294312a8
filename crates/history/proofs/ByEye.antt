-- What is read state by state in a history is what is found by eye in its stretches of bytes.
use mathlib.Core.Path.{◌≡◌, refl, sym, ap, ap₂, ◌∙◌}
use mathlib.Core.Bool.{true, false≢true}
use mathlib.Core.List.{List, [], ◌∷◌, ◌++◌, append_assoc, append-nil}
use Prim.Native.Nat.{ℕ, zero, suc, ◌≤◌}
use native.Mathlib.Omega.{arith}
use lib.ListN.{length, drop}
use Rattle.std.specs.Prelude.{Ok, Err}
use Rattle.answer.specs.Answers.{Output}
use Rattle.packet.specs.Packet.{packet_of, read_packet}
use Rattle.packet.proofs.Theorems.{packet_read}
use Rattle.reception.specs.Reception.{idle}
use Rattle.device.specs.Events.{Event}
use Rattle.device.specs.Events.Event.{byte, timeout, restart}
use Rattle.history.specs.Text.{up_to, after_first, after_last, Item, item_of, between, data_in, rest_in, found, with_checks, items_in, items_of}
use Rattle.history.specs.Text.Item.{good, bad}
use Rattle.history.specs.Ran.{Seen, items, seen_from, seen_of}
use Rattle.history.specs.Ran.Seen.{item, restarted}
use Rattle.history.specs.Reading.{read_from}
use Rattle.history.proofs.Heard.{Heard, begun, next, next_data, next13h, heard_at, heard_from, agree}
use Rattle.history.proofs.Heard.Heard.{outside, in_data, after13h, first_check, second_check}
use Rattle.history.proofs.Places.{last_has, last_no_syn, up_to_none, rest_shorter}
use Rattle.history.proofs.Stretch.{next_all, items_from, next_snoc, items_snoc, to_syn, is_data, data_all, to_etb, from_last}
use Rattle.history.proofs.Bodies.{outcome, body_found}

-- ---- packet after packet

-- the checks, and what comes after them
abbrev after_checks : Heard → List ℕ → List Item
after_checks r [] = []
after_checks r (a ∷ []) = []
after_checks r (a ∷ b ∷ rest) = outcome (next r 0x17) a b ++ items_from outside rest

-- after 17h there are two check bytes, and reception is outside again
after_checks_lem : (r : Heard) (t : List ℕ) → is_data r ≡ true → items_from (next r 0x17) t ≡ after_checks r t
unfolding items_from heard_at next next_data next13h outcome
after_checks_lem outside t d = absurd (false≢true d)
after_checks_lem (first_check p s) t d = absurd (false≢true d)
after_checks_lem (second_check p s a) t d = absurd (false≢true d)
after_checks_lem (in_data p s) [] d = refl
after_checks_lem (in_data p s) (a ∷ []) d = refl
after_checks_lem (in_data p s) (a ∷ b ∷ rest) d = refl
after_checks_lem (after13h p s) [] d = refl
after_checks_lem (after13h p s) (a ∷ []) d = refl
after_checks_lem (after13h p s) (a ∷ b ∷ rest) d = refl

-- the data before the first 17h, and its checks
first_packet : (ys : List ℕ) (a b : ℕ) → outcome (next (next_all begun (up_to 0x17 ys)) 0x17) a b ≡ found (after_last 0x16 (up_to 0x17 ys)) a b ∷ []
first_packet ys a b =
    let z = up_to 0x17 ys in
    let e = up_to_none ys in
    ap (λ (r : Heard). outcome (next r 0x17) a b) (from_last z e) ∙ body_found (after_last 0x16 z) a b (last_no_syn z) (last_has 0x17 z e)

-- what is between packets, the first packet, and what comes after it
one_packet : (xs : List ℕ)
    → items_from outside xs ≡ between (up_to 0x16 xs) ++ after_checks (next_all begun (up_to 0x17 (after_first 0x16 xs))) (rest_in xs)
unfolding rest_in
one_packet xs =
    let ys = after_first 0x16 xs in
    to_syn xs
    ∙ ap (λ (t : List Item). between (up_to 0x16 xs) ++ t)
    (to_etb begun ys refl ∙ after_checks_lem (next_all begun (up_to 0x17 ys)) (after_first 0x17 ys) (data_all begun (up_to 0x17 ys) refl (up_to_none ys)))

-- texts of up to n bytes
abbrev Packets : ℕ → Type 0
Packets n = (xs : List ℕ) → length xs ≤ n → items_from outside xs ≡ items_in n xs

-- the first packet with its checks, and the packets after it
with_checks_lem : (n : ℕ) (xs t : List ℕ) → length t ≤ suc n → Packets n
    → after_checks (next_all begun (up_to 0x17 (after_first 0x16 xs))) t ≡ with_checks (data_in xs) t (items_in n (drop 2 t))
unfolding data_in
with_checks_lem n xs [] h ih = refl
with_checks_lem n xs (a ∷ []) h ih = refl
with_checks_lem n xs (a ∷ b ∷ rest) h ih = rw (first_packet (after_first 0x16 xs) a b, ih rest (omega arith)) refl

-- what stands after a packet is shorter than the text
more_packets : (n : ℕ) → Packets n → Packets (suc n)
unfolding items_in
more_packets n ih xs h =
    let l = rest_shorter xs in
    one_packet xs ∙ ap (λ (t : List Item). between (up_to 0x16 xs) ++ t) (with_checks_lem n xs (rest_in xs) (omega arith) ih)

-- the empty text
no_packets : Packets zero
unfolding items_in items_from
no_packets [] h = refl
no_packets (x ∷ xs) h = absurd (omega arith)

-- every text, packet after packet
packets : (n : ℕ) → Packets n
packets zero = no_packets
packets (suc n) = more_packets n (packets n)

-- what is read in a stretch of bytes is what stands in its text
pub stretch_by_eye : (text : List ℕ) → items_from outside text ≡ items_of text
stretch_by_eye text = packets (length text) text (omega arith)

-- ---- histories

-- what is seen in two parts
items_append : (is js : List Item) → items (is ++ js) ≡ items is ++ items js
unfolding items
items_append [] js = refl
items_append (i ∷ is) js = ap (λ (t : List Seen). item i ∷ t) (items_append is js)

-- what is seen after a text is what is read in it, and then from where it leaves reception
abbrev SeenAfter : List Event → Type 0
SeenAfter h = (text : List ℕ) → seen_from text h ≡ items (items_from outside text) ++ heard_from (next_all outside text) h

-- no event
seen_none : SeenAfter []
unfolding seen_from heard_from
seen_none text = ap items (sym (stretch_by_eye text)) ∙ sym (append-nil (items (items_from outside text)))

-- a byte goes on with the stretch
seen_byte : (b : ℕ) (h : List Event) → SeenAfter h → SeenAfter (byte b ∷ h)
unfolding seen_from heard_from
seen_byte b h ih text =
    let r = next_all outside text in
    let is = items_from outside text in
    ih (text ++ (b ∷ []))
    ∙ ap₂ (λ (js : List Item) (q : Heard). items js ++ heard_from q h) (items_snoc outside text b) (next_snoc outside text b)
    ∙ ap (λ (t : List Seen). t ++ heard_from (next r b) h) (items_append is (heard_at r b))
    ∙ append_assoc (items is) (items (heard_at r b)) (heard_from (next r b) h)

-- a stretch that begins
seen_afresh : (h : List Event) → SeenAfter h → seen_from [] h ≡ heard_from outside h
unfolding items_from next_all items
seen_afresh h ih = ih []

-- a timeout ends the stretch
seen_timeout : (h : List Event) → SeenAfter h → SeenAfter (timeout ∷ h)
unfolding seen_from heard_from
seen_timeout h ih text = ap₂ (λ (is : List Item) (t : List Seen). items is ++ t) (sym (stretch_by_eye text)) (seen_afresh h ih)

-- a restart ends the stretch, and is seen
seen_restart : (h : List Event) → SeenAfter h → SeenAfter (restart ∷ h)
unfolding seen_from heard_from
seen_restart h ih text = ap₂ (λ (is : List Item) (t : List Seen). items is ++ (restarted ∷ t)) (sym (stretch_by_eye text)) (seen_afresh h ih)

-- every history
seen_after : (h : List Event) → SeenAfter h
seen_after [] = seen_none
seen_after (byte b ∷ h) = seen_byte b h (seen_after h)
seen_after (timeout ∷ h) = seen_timeout h (seen_after h)
seen_after (restart ∷ h) = seen_restart h (seen_after h)

-- WHAT IS READ STATE BY STATE, from an idle line and a store of 2,048 bytes, IS WHAT IS FOUND BY EYE
pub seen_by_eye : (store : List ℕ) → length store ≡ 2048 → (h : List Event) → read_from idle store h ≡ seen_of h
seen_by_eye store l h = agree h idle store l (omega arith) ∙ sym (seen_afresh h (seen_after h))

-- ---- good packets

-- a good packet has one payload
same_item : {p q : List ℕ} → good p ≡ good q → p ≡ q
same_item e = cc

-- a bad packet is no good one
not_bad : {p : List ℕ} → bad ≡ good p → ⊥
not_bad e = let z : ◌≡◌ {A = ℕ} 0 1 = cc in omega arith

-- only a success is found good
good_result : (r : Output) (p : List ℕ) → item_of r ≡ good p → r ≡ Ok p
good_result (Ok q) p e = ap (λ (x : List ℕ). let o : Output = Ok x in o) (same_item e)
good_result (Err n) p e = absurd (not_bad e)

-- data and checks that are found good are the packet of the payload found, which has 1 to 2,048 bytes
pub good_read : (body : List ℕ) (a b : ℕ) (p : List ℕ) → found body a b ≡ good p
    → (0x16 ∷ (body ++ (0x17 ∷ a ∷ b ∷ [])) ≡ packet_of p) × (1 ≤ length p) × (length p ≤ 2048)
unfolding found
good_read body a b p e =
    packet_read (0x16 ∷ (body ++ (0x17 ∷ a ∷ b ∷ []))) p (good_result (read_packet (0x16 ∷ (body ++ (0x17 ∷ a ∷ b ∷ [])))) p e)
