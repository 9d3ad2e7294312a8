-- The laws of a payload with substitutions, part by part.
use mathlib.Core.Path.{◌≡◌, refl, sym, ap, ◌∙◌}
use mathlib.Core.Bool.{Bool, true, false, cond}
use mathlib.Core.List.{List, [], ◌∷◌, ◌++◌, append_assoc, append-nil}
use Prim.Native.Nat.{ℕ, suc, ◌+◌, ◌≤◌, ◌<◌}
use native.Mathlib.Omega.{arith}
use native.Mathlib.Numerals.{add-one}
use native.Mathlib.Nat.{zero-add}
use Rattle.std.specs.Prelude.{fold, sum_by}
use lib.ListN.{length, get_or, take, drop, length-append, take-append-drop}
use lib.Seq.{take-suc, drop-cons}
use lib.Dec.{eqb}
use Rattle.answer.specs.Answers.{over}
use Rattle.answer.specs.Laid.{pasted}
use Rattle.answer.proofs.Laid.{over_more}
use Rattle.packet.specs.Substitution.{sent, stuff}
use Rattle.packet.specs.Packet.{ending, packet_of}

pub stuff_append : (p q : List ℕ) → stuff (p ++ q) ≡ stuff p ++ stuff q
unfolding stuff
stuff_append [] q = refl
stuff_append (b ∷ p) q = ap (λ (l : List ℕ). sent b ++ l) (stuff_append p q) ∙ sym (append_assoc (sent b) (stuff p) (stuff q))

stuff_one : (b : ℕ) → stuff (b ∷ []) ≡ sent b
unfolding stuff
stuff_one b = append-nil (sent b)

pub stuff_more : (p : List ℕ) (i : ℕ) → i < length p → stuff (take (i + 1) p) ≡ stuff (take i p) ++ sent (get_or p i 0)
stuff_more p i h = rw (add-one, take-suc p i 0, stuff_append, stuff_one) refl

pub stuff_split : (p : List ℕ) (i : ℕ) → length (stuff p) ≡ length (stuff (take i p)) + length (stuff (drop i p))
stuff_split p i = ap length (ap stuff (sym (take-append-drop i p)) ∙ stuff_append (take i p) (drop i p)) ∙ length-append (stuff (take i p)) (stuff (drop i p))

pub stuff_next : (p : List ℕ) (i : ℕ) → i < length p → length (stuff (drop i p)) ≡ length (sent (get_or p i 0)) + length (stuff (drop (i + 1) p))
unfolding stuff
stuff_next p i h = rw (add-one, drop-cons p i 0) (length-append (sent (get_or p i 0)) (stuff (drop (suc i) p)))

pub sent_two : (b : ℕ) → length (sent b) ≤ 2
unfolding sent
sent_two b = cases (eqb b 0x13) (eqb b 0x16) (eqb b 0x17)
  where
    cases : (x y z : Bool) → length (cond x (0x13 ∷ 0x33 ∷ []) (cond y (0x13 ∷ 0x36 ∷ []) (cond z (0x13 ∷ 0x37 ∷ []) (b ∷ [])))) ≤ 2
    cases true y z = omega arith
    cases false true z = omega arith
    cases false false true = omega arith
    cases false false false = omega arith

pub stuff_two : (p : List ℕ) → length (stuff p) ≤ length p + length p
unfolding stuff
stuff_two [] = omega arith
stuff_two (b ∷ p) = rw (length-append (sent b) (stuff p)) (omega (arith, sent_two b, stuff_two p))

stuff_from : (n : ℕ) (p : List ℕ) → fold (λ (a b : ℕ). a + length (sent b)) n p ≡ n + length (stuff p)
unfolding stuff
stuff_from n [] = omega arith
stuff_from n (b ∷ p) = omega (arith, stuff_from (n + length (sent b)) p, length-append (sent b) (stuff p))

pub stuff_sum : (p : List ℕ) → length (stuff p) ≡ sum_by (λ b. length (sent b)) p
stuff_sum p = sym (stuff_from 0 p ∙ zero-add (length (stuff p)))

pub packet_long : (p : List ℕ) → length (packet_of p) ≡ 4 + length (stuff p)
unfolding packet_of
packet_long p = simp length-append (omega arith)

-- the packet: SYN and the stuffed payload, and the ending after them
pub packet_laid : (p l : List ℕ) → pasted (over (0x16 ∷ stuff p) l) (length (0x16 ∷ stuff p)) (ending p) ≡ over (packet_of p) l
unfolding packet_of
packet_laid p l = over_more (0x16 ∷ stuff p) (ending p) l
