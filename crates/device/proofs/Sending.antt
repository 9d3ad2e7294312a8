-- Bytes put in a store or sent: what the writing functions come to.
use mathlib.Core.Path.{◌≡◌, ap, subst, ◌∙◌}
use mathlib.Core.List.{List, [], ◌∷◌, append-nil}
use Prim.Native.Nat.{ℕ, suc, ◌-◌, ◌≤◌}
use native.Mathlib.Omega.{arith}
use lib.ListN.{length, take, drop, set, length-append, length-drop, length-take, length-set, drop_of_length-le}
use lib.Seq.{take_all}
use borrow.Rule.Slice.PartMut.{put_mid}
use borrow.Author.Tests.{le-ltb, ne_eqb}
use Rattle.std.specs.Prelude.{Result, Ok}
use Rattle.answer.specs.declared.refusal.Refusal.{Refusal}
use Rattle.answer.specs.Answers.{Output, Gives, over}
use Rattle.packet.specs.Packet.{packet_of, write_packet}
use Rattle.packet.proofs.Stuffing.{stuff_two, packet_long}

-- the packet of a response fits in 63 bytes
pub packet_short : (p : List ℕ) → length p ≤ 19 → length (packet_of p) ≤ 63
packet_short p h = omega (arith, stuff_two p, packet_long p)

-- a response is written whole where there are 63 bytes
module _ (p out : List ℕ) (r : Result ℕ Refusal) (out' : List ℕ) (lo : 1 ≤ length p) (hi : length p ≤ 19) (room : 63 ≤ length out) (g : Gives (write_packet p) out r out') where
  sent_good : write_packet p ≡ Ok (packet_of p)
  sent_good = simp (ne_eqb (length p) 0 (λ z. omega (arith, z)), le-ltb 2048 (length p) (omega arith))

  pub sent_whole : (r ≡ Ok (length (packet_of p))) × (out' ≡ over (packet_of p) out)
  sent_whole =
      let q = subst (λ (x : Output). Gives x out r out') sent_good g in
      let f = le-ltb (length out) (length (packet_of p)) (omega (arith, packet_short p hi)) in
      (simp f at q.answer, simp f at q.bytes)

-- ---- a byte, and then bytes written behind it

-- bytes laid over a list that is long enough leave its length
over_long : (p l : List ℕ) → length p ≤ length l → length (over p l) ≡ length l
over_long p l h = simp (length-append, length-drop) (omega arith)

-- what is lent behind the first byte
abbrev pub lent_behind : List ℕ → List ℕ
lent_behind out = take (length out - 1) (drop 1 out)

-- a byte at the start, and then bytes written behind it
pub behind : (b : ℕ) (out p s : List ℕ) → 1 ≤ length out → s ≡ over p (lent_behind (set out 0 b)) → put_mid 1 (length (set out 0 b) - 1) (set out 0 b) s ≡ over (b ∷ p) out
behind b [] p s h e = absurd (omega arith)
behind b (x ∷ l) p s h e =
    let n : suc (length l) - 1 ≡ length l = omega arith in
    let f : s ≡ over p l = e ∙ ap (over p) (ap (λ (k : ℕ). take k l) n ∙ take_all (length l) l (omega arith)) in
    let z : drop (suc (length l) - 1) l ≡ [] = drop_of_length-le l {i = suc (length l) - 1} (omega arith) in
    ap (λ (k : List ℕ). b ∷ k) (rw (z, append-nil s) f)
