-- What holds of packets: reading accepts exactly the packets, and gives back what was sent.
use mathlib.Core.Path.{◌≡◌, refl, sym, ap, ap₂, ◌∙◌, subst}
use mathlib.Core.Bool.{Bool, true, false, ◌&&◌, ◌||◌, cond}
use mathlib.Core.List.{List, [], ◌∷◌, ◌++◌, append_assoc}
use Prim.Native.Nat.{ℕ, zero, suc, ◌+◌, ◌/◌, ◌%◌, ◌≤◌}
use native.Mathlib.Omega.{arith}
use native.Mathlib.Numerals.{add-one}
use lib.ListN.{length, take, drop, length-append}
use lib.Seq.{drop-append-add, take-append_seam}
use lib.Dec.{eqb, ltb}
use borrow.Author.Tests.{eq-eqb, ne_eqb, le-ltb, ltb-false, eqb-true, eqb-false}
use Rattle.crc16.specs.Crc.{check}
use Rattle.std.specs.Prelude.{Option, Some, None, Result, Ok, Err}
use Rattle.answer.specs.declared.refusal.Refusal.{Refusal}
use Rattle.answer.specs.declared.refusal.Refusal.TheVariants.{Empty, TooLong, NoPacket, WrongCheck}
use Rattle.answer.specs.Answers.{Output, Gives, answer_of, over}
use Rattle.packet.specs.Substitution.{sent, stuff, and_then, pair_then, plain_then, unstuff}
use Rattle.packet.specs.Packet.{ending, packet_of, sized, write_packet, before, checked, judged, closed, rest_of, read_packet}
use Rattle.packet.specs.Claims.{IsPacket}
use Rattle.answer.proofs.Promises.{gives_one, same_good, not_good, success}
use Rattle.packet.proofs.Judging.{write_good}

-- ---- each promise allows one result

pub write_one : (p out : List ℕ) (r s : Result ℕ Refusal) (o o' : List ℕ) → Gives (write_packet p) out r o → Gives (write_packet p) out s o' → (r ≡ s) × (o ≡ o')
write_one p = gives_one (write_packet p)

pub read_one : (b out : List ℕ) (r s : Result ℕ Refusal) (o o' : List ℕ) → Gives (read_packet b) out r o → Gives (read_packet b) out s o' → (r ≡ s) × (o ≡ o')
read_one b = gives_one (read_packet b)

-- ---- facts on the constructors

same_clean : {p q : List ℕ} → (let u : Option (List ℕ) = Some p in u) ≡ Some q → p ≡ q
same_clean e = cc

not_clean : {p : List ℕ} → (let u : Option (List ℕ) = None in u) ≡ Some p → ⊥
not_clean e = cc

-- ---- a payload with substitutions is read back

unstuff_plain : (x : ℕ) (xs : List ℕ) → eqb x 0x13 ≡ false → unstuff (x ∷ xs) ≡ plain_then x (unstuff xs)
unfolding unstuff
unstuff_plain x [] e = rw e refl
unstuff_plain x (y ∷ ys) e = rw e refl

module _ (b : ℕ) (s p : List ℕ) (ih : unstuff s ≡ Some p) where
  read_sent : unstuff (sent b ++ s) ≡ Some (b ∷ p)
  unfolding sent unstuff pair_then plain_then
  read_sent = cases (eqb b 0x13) (eqb b 0x16) (eqb b 0x17) refl refl refl
    where
      pair : (k : ℕ) → eqb b k ≡ true → and_then k (unstuff s) ≡ Some (b ∷ p)
      pair k e = ap (and_then k) ih ∙ ap (λ (x : ℕ). Some (x ∷ p)) (sym (eqb-true b k e))

      cases : (x y z : Bool) → eqb b 0x13 ≡ x → eqb b 0x16 ≡ y → eqb b 0x17 ≡ z
          → unstuff (cond x (0x13 ∷ 0x33 ∷ []) (cond y (0x13 ∷ 0x36 ∷ []) (cond z (0x13 ∷ 0x37 ∷ []) (b ∷ []))) ++ s) ≡ Some (b ∷ p)
      cases true y z f g h = pair 0x13 f
      cases false true z f g h = pair 0x16 g
      cases false false true f g h = pair 0x17 h
      cases false false false f g h = unstuff_plain b s f ∙ rw (g, h, ih) refl

pub unstuff_stuff : (p : List ℕ) → unstuff (stuff p) ≡ Some p
unfolding stuff unstuff
unstuff_stuff [] = refl
unstuff_stuff (b ∷ p) = read_sent b (stuff p) p (unstuff_stuff p)

-- ---- what reads back is a payload with substitutions

then_clean : (b : ℕ) (u : Option (List ℕ)) (p : List ℕ) → and_then b u ≡ Some p → (q : List ℕ) × (u ≡ Some q) × (p ≡ b ∷ q)
then_clean b (Some q) p e = (q, refl, sym (same_clean e))
then_clean b None p e = absurd (not_clean e)

-- the byte that stands before what u reads to, and how it is sent
record Sent (s : List ℕ) (u : Option (List ℕ)) (p : List ℕ) : Type 0 where
  byte : ℕ
  rest : List ℕ
  reads : u ≡ Some rest
  whole : p ≡ byte ∷ rest
  sends : sent byte ≡ s

sent_pair : (y : ℕ) (u : Option (List ℕ)) (p : List ℕ) → pair_then y u ≡ Some p → Sent (0x13 ∷ y ∷ []) u p
unfolding pair_then sent
sent_pair y u p = cases (eqb y 0x33) (eqb y 0x36) (eqb y 0x37) refl refl refl
  where
    pair : (v k : ℕ) → sent v ≡ 0x13 ∷ k ∷ [] → eqb y k ≡ true → and_then v u ≡ Some p → Sent (0x13 ∷ y ∷ []) u p
    pair v k s h e =
        let (q, r, w) = then_clean v u p e in
        record { byte = v; rest = q; reads = r; whole = w; sends = s ∙ ap (λ (n : ℕ). 0x13 ∷ n ∷ []) (sym (eqb-true y k h)) }

    cases : (a b c : Bool) → eqb y 0x33 ≡ a → eqb y 0x36 ≡ b → eqb y 0x37 ≡ c
        → cond a (and_then 0x13 u) (cond b (and_then 0x16 u) (cond c (and_then 0x17 u) None)) ≡ Some p → Sent (0x13 ∷ y ∷ []) u p
    cases true b c f g h e = pair 0x13 0x33 refl f e
    cases false true c f g h e = pair 0x16 0x36 refl g e
    cases false false true f g h e = pair 0x17 0x37 refl h e
    cases false false false f g h e = absurd (not_clean e)

sent_plain : (x : ℕ) (u : Option (List ℕ)) (p : List ℕ) → eqb x 0x13 ≡ false → plain_then x u ≡ Some p → Sent (x ∷ []) u p
unfolding plain_then sent
sent_plain x u p o = cases (eqb x 0x16) (eqb x 0x17) refl refl
  where
    cases : (a b : Bool) → eqb x 0x16 ≡ a → eqb x 0x17 ≡ b → cond (a || b) None (and_then x u) ≡ Some p → Sent (x ∷ []) u p
    cases true b f g e = absurd (not_clean e)
    cases false true f g e = absurd (not_clean e)
    cases false false f g e =
        let (q, r, w) = then_clean x u p e in
        record { byte = x; rest = q; reads = r; whole = w; sends = rw (o, f, g) refl }

sent_then : (s t p : List ℕ) (u : Option (List ℕ)) → ((q : List ℕ) → u ≡ Some q → t ≡ stuff q) → Sent s u p → s ++ t ≡ stuff p
unfolding stuff
sent_then s t p u ih k = ap₂ (λ (a b : List ℕ). a ++ b) (sym k.sends) (ih k.rest k.reads) ∙ sym (ap stuff k.whole)

pub stuff_unstuff : (b p : List ℕ) → unstuff b ≡ Some p → b ≡ stuff p
unfolding unstuff stuff
stuff_unstuff [] p e = ap stuff (same_clean e)
stuff_unstuff (x ∷ []) p e = cases (eqb x 0x13) refl e
  where
    nil : (q : List ℕ) → Some [] ≡ Some q → [] ≡ stuff q
    nil q f = ap stuff (same_clean f)

    cases : (a : Bool) → eqb x 0x13 ≡ a → cond a None (plain_then x (Some [])) ≡ Some p → x ∷ [] ≡ stuff p
    cases true o f = absurd (not_clean f)
    cases false o f = sent_then (x ∷ []) [] p (Some []) nil (sent_plain x (Some []) p o f)
stuff_unstuff (x ∷ y ∷ ys) p e = cases (stuff_unstuff ys) (stuff_unstuff (y ∷ ys)) (eqb x 0x13) refl e
  where
    cases : ((q : List ℕ) → unstuff ys ≡ Some q → ys ≡ stuff q) → ((q : List ℕ) → unstuff (y ∷ ys) ≡ Some q → y ∷ ys ≡ stuff q)
        → (a : Bool) → eqb x 0x13 ≡ a → cond a (pair_then y (unstuff ys)) (plain_then x (unstuff (y ∷ ys))) ≡ Some p → x ∷ y ∷ ys ≡ stuff p
    cases i j true o f = ap (λ (n : ℕ). n ∷ y ∷ ys) (eqb-true x 0x13 o) ∙ sent_then (0x13 ∷ y ∷ []) ys p (unstuff ys) i (sent_pair y (unstuff ys) p f)
    cases i j false o f = sent_then (x ∷ []) (y ∷ ys) p (unstuff (y ∷ ys)) j (sent_plain x (unstuff (y ∷ ys)) p o f)

-- ---- the packet of a payload is read back

before_sent : (b : ℕ) (s : List ℕ) → before 0x17 (sent b ++ s) ≡ length (sent b) + before 0x17 s
unfolding sent before
before_sent b s = cases (eqb b 0x13) (eqb b 0x16) (eqb b 0x17) refl
  where
    cases : (x y z : Bool) → eqb b 0x17 ≡ z
        → before 0x17 (cond x (0x13 ∷ 0x33 ∷ []) (cond y (0x13 ∷ 0x36 ∷ []) (cond z (0x13 ∷ 0x37 ∷ []) (b ∷ []))) ++ s)
        ≡ length (cond x (0x13 ∷ 0x33 ∷ []) (cond y (0x13 ∷ 0x36 ∷ []) (cond z (0x13 ∷ 0x37 ∷ []) (b ∷ [])))) + before 0x17 s
    cases true y z h = omega arith
    cases false true z h = omega arith
    cases false false true h = omega arith
    cases false false false h = rw h (omega arith)

before_stuff : (p t : List ℕ) → before 0x17 (stuff p ++ (0x17 ∷ t)) ≡ length (stuff p)
unfolding stuff before
before_stuff [] t = refl
before_stuff (b ∷ p) t =
    ap (before 0x17) (append_assoc (sent b) (stuff p) (0x17 ∷ t)) ∙ before_sent b (stuff p ++ (0x17 ∷ t))
    ∙ ap (λ (n : ℕ). length (sent b) + n) (before_stuff p t) ∙ sym (length-append (sent b) (stuff p))

-- WRITE, THEN READ: the packet of a payload of 1 to 2,048 bytes reads as that payload
pub read_packet_lem : (p : List ℕ) → 1 ≤ length p → length p ≤ 2048 → read_packet (packet_of p) ≡ Ok p
unfolding read_packet packet_of
read_packet_lem p h k =
    let n = before_stuff p (check p / 256 ∷ check p % 256 ∷ []) in
    let body : take (before 0x17 (stuff p ++ ending p)) (stuff p ++ ending p) ≡ stuff p =
    ap (λ (m : ℕ). take m (stuff p ++ ending p)) n ∙ take-append_seam (stuff p) (ending p) in
    let tail : drop (suc (before 0x17 (stuff p ++ ending p))) (stuff p ++ ending p) ≡ check p / 256 ∷ check p % 256 ∷ [] =
    ap (λ (m : ℕ). drop m (stuff p ++ ending p)) (ap suc n ∙ sym (add-one (length (stuff p)))) ∙ drop-append-add (stuff p) (ending p) 1 in
    rw (body, tail, unstuff_stuff p)
    (simp (ne_eqb (length p) 0 (λ e. omega arith), le-ltb 2048 (length p) k, eq-eqb (check p / 256) (check p / 256) refl, eq-eqb (check p % 256) (check p % 256) refl))

-- ---- what reads is the packet of its payload

sized_good : (p q : List ℕ) (more : Output) → sized p more ≡ Ok q → (1 ≤ length p) × (length p ≤ 2048) × (more ≡ Ok q)
sized_good p q more = cases (eqb (length p) 0) (ltb 2048 (length p)) refl refl
  where
    cases : (a b : Bool) → eqb (length p) 0 ≡ a → ltb 2048 (length p) ≡ b → cond a (Err Empty) (cond b (Err TooLong) more) ≡ Ok q
        → (1 ≤ length p) × (length p ≤ 2048) × (more ≡ Ok q)
    cases true b f g e = absurd (not_good e)
    cases false true f g e = absurd (not_good e)
    cases false false f g e = (nonzero (length p) (eqb-false (length p) 0 f), ltb-false 2048 (length p) g, e)
      where
        nonzero : (n : ℕ) → (n ≡ 0 → ⊥) → 1 ≤ n
        nonzero zero h = absurd (h refl)
        nonzero (suc n) h = omega arith

checked_good : (p q : List ℕ) (a b : ℕ) → checked p a b ≡ Ok q → (p ≡ q) × (0x17 ∷ a ∷ b ∷ [] ≡ ending p)
checked_good p q a b = cases (eqb a (check p / 256)) (eqb b (check p % 256)) refl refl
  where
    cases : (x y : Bool) → eqb a (check p / 256) ≡ x → eqb b (check p % 256) ≡ y → cond (x && y) (Ok p) (Err WrongCheck) ≡ Ok q
        → (p ≡ q) × (0x17 ∷ a ∷ b ∷ [] ≡ ending p)
    cases true true f g e = (same_good e, ap₂ (λ (m n : ℕ). 0x17 ∷ m ∷ n ∷ []) (eqb-true a (check p / 256) f) (eqb-true b (check p % 256) g))
    cases true false f g e = absurd (not_good e)
    cases false y f g e = absurd (not_good e)

judged_good : (u : Option (List ℕ)) (body p : List ℕ) (a b : ℕ) → unstuff body ≡ u → judged u a b ≡ Ok p → IsPacket (0x16 ∷ (body ++ (0x17 ∷ a ∷ b ∷ []))) p
unfolding packet_of
judged_good (Some q) body p a b h e =
    let (lo, hi, f) = sized_good q p (checked q a b) e in
    let (same, bytes) = checked_good q p a b f in
    subst (λ (r : List ℕ). IsPacket (0x16 ∷ (body ++ (0x17 ∷ a ∷ b ∷ []))) r) same
    (ap₂ (λ (s t : List ℕ). 0x16 ∷ (s ++ t)) (stuff_unstuff body q h) bytes, lo, hi)
judged_good None body p a b h e = absurd (not_good e)

before_split : (k : ℕ) (xs t : List ℕ) (x : ℕ) → drop (suc (before k xs)) xs ≡ x ∷ t → xs ≡ take (before k xs) xs ++ (k ∷ x ∷ t)
unfolding before
before_split k [] t x e = absurd (let z : ◌≡◌ {A = ℕ} 0 1 = cc in omega arith)
before_split k (y ∷ ys) t x e = cases (eqb y k) refl (before_split k ys t x) e
  where
    cases : (b : Bool) → eqb y k ≡ b → (drop (suc (before k ys)) ys ≡ x ∷ t → ys ≡ take (before k ys) ys ++ (k ∷ x ∷ t))
        → drop (suc (cond b 0 (suc (before k ys)))) (y ∷ ys) ≡ x ∷ t → y ∷ ys ≡ take (cond b 0 (suc (before k ys))) (y ∷ ys) ++ (k ∷ x ∷ t)
    cases true f ih e = ap₂ (λ (n : ℕ) (l : List ℕ). n ∷ l) (eqb-true y k f) e
    cases false f ih e = ap (λ (l : List ℕ). y ∷ l) (ih e)

closed_good : (xs tail p : List ℕ) → drop (suc (before 0x17 xs)) xs ≡ tail → closed (take (before 0x17 xs) xs) tail ≡ Ok p → IsPacket (0x16 ∷ xs) p
closed_good xs [] p h e = absurd (not_good e)
closed_good xs (a ∷ []) p h e = absurd (not_good e)
closed_good xs (a ∷ b ∷ []) p h e =
    let body = take (before 0x17 xs) xs in
    subst (λ (l : List ℕ). IsPacket (0x16 ∷ l) p) (sym (before_split 0x17 xs (b ∷ []) a h)) (judged_good (unstuff body) body p a b refl e)
closed_good xs (a ∷ b ∷ x ∷ t) p h e = absurd (not_good e)

-- READ, THEN WRITE: what reads is the packet of what it reads as, which has 1 to 2,048 bytes
pub packet_read : (b p : List ℕ) → read_packet b ≡ Ok p → IsPacket b p
unfolding read_packet
packet_read [] p e = absurd (not_good e)
packet_read (x ∷ xs) p e = cases (eqb x 0x16) refl e
  where
    cases : (t : Bool) → eqb x 0x16 ≡ t → cond t (rest_of xs) (Err NoPacket) ≡ Ok p → IsPacket (x ∷ xs) p
    cases true f e = subst (λ (n : ℕ). IsPacket (n ∷ xs) p) (sym (eqb-true x 0x16 f)) (closed_good xs (drop (suc (before 0x17 xs)) xs) p refl e)
    cases false f e = absurd (not_good e)

-- READING ACCEPTS EXACTLY THE PACKETS
pub reads_packets : (b p : List ℕ) → (read_packet b ≡ Ok p → IsPacket b p) × (IsPacket b p → read_packet b ≡ Ok p)
reads_packets b p = (packet_read b p, λ h. ap read_packet h.0 ∙ read_packet_lem p h.1 h.2)

-- what the writer gives for a payload is what reads as it
pub writes_reads : (b p : List ℕ) → read_packet b ≡ Ok p → write_packet p ≡ Ok b
writes_reads b p e = let (s, lo, hi) = packet_read b p e in write_good p (λ z. omega arith) hi ∙ ap Ok (sym s)

pub reads_writes : (b p : List ℕ) → write_packet p ≡ Ok b → read_packet b ≡ Ok p
reads_writes b p e =
    let (lo, hi, f) = sized_good p b (Ok (packet_of p)) e in
    ap read_packet (sym (same_good f)) ∙ read_packet_lem p lo hi

-- a packet that reads is the only packet for its payload
pub only_packet : (b c p : List ℕ) → read_packet b ≡ Ok p → read_packet c ≡ Ok p → b ≡ c
only_packet b c p e f = (packet_read b p e).0 ∙ sym (packet_read c p f).0

-- and no packet is sent for two payloads
pub only_payload : (p q : List ℕ) → 1 ≤ length p → length p ≤ 2048 → 1 ≤ length q → length q ≤ 2048 → packet_of p ≡ packet_of q → p ≡ q
only_payload p q h k l m e = same_good (sym (read_packet_lem p h k) ∙ ap read_packet e ∙ read_packet_lem q l m)

-- ---- the calls: what was written reads back

-- WRITE, THEN READ, as calls
pub write_then_read : (p out : List ℕ) (n : ℕ) (out' buf : List ℕ) (s : Result ℕ Refusal) (buf' : List ℕ)
    → Gives (write_packet p) out (Ok n) out' → length p ≤ length buf → Gives (read_packet (take n out')) buf s buf'
    → (s ≡ answer_of (Ok p)) × (buf' ≡ over p buf)
write_then_read p out n out' buf s buf' w room g =
    let d = success (write_packet p) out n out' w in
    let e : read_packet (take n out') ≡ Ok p = ap read_packet d.bytes ∙ reads_writes d.given p d.is in
    let h = subst (λ (x : Output). Gives x buf s buf') e g in
    let t = le-ltb (length buf) (length p) room in
    (h.answer ∙ rw t refl, h.bytes ∙ rw t refl)

-- READ, THEN WRITE, as calls: the same bytes come back
pub read_then_write : (b out : List ℕ) (n : ℕ) (out' buf : List ℕ) (s : Result ℕ Refusal) (buf' : List ℕ)
    → Gives (read_packet b) out (Ok n) out' → length b ≤ length buf → Gives (write_packet (take n out')) buf s buf'
    → (s ≡ answer_of (Ok b)) × (buf' ≡ over b buf)
read_then_write b out n out' buf s buf' w room g =
    let d = success (read_packet b) out n out' w in
    let e : write_packet (take n out') ≡ Ok b = ap write_packet d.bytes ∙ writes_reads b d.given d.is in
    let h = subst (λ (x : Output). Gives x buf s buf') e g in
    let t = le-ltb (length buf) (length b) room in
    (h.answer ∙ rw t refl, h.bytes ∙ rw t refl)
