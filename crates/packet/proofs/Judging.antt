-- What the calls come to, by the tests that they make.
use Rattle.crc16.specs.Register.{stepped, register_after}
use Rattle.crc16.proofs.Steps.{step_check}
use mathlib.Core.Path.{◌≡◌, refl, sym, ap, ◌∙◌}
use mathlib.Core.Bool.{Bool, true, false, ◌&&◌, cond, not}
use mathlib.Core.List.{List, [], ◌∷◌}
use lib.Pointwise.{pointwise}
use Rattle.std.proofs.Common.{nat_eq}
use Prim.Native.Nat.{ℕ, suc, ◌^◌, ◌-◌, ◌/◌, ◌%◌, ◌≤◌, ◌<◌}
use native.Mathlib.Omega.{arith}
use lib.ListN.{length, get_or, take, drop}
use lib.Seq.{take_all}
use lib.Dec.{eqb}
use borrow.Author.Tests.{eq-eqb, ne_eqb, le-ltb}
use Rattle.crc16.specs.Crc.{check}
use Rattle.std.specs.Prelude.{Option, Some, None, Ok, Err}
use Rattle.answer.specs.declared.refusal.Refusal.TheVariants.{NoPacket, WrongCheck}
use Rattle.packet.specs.declared.Body.{Body}
use Rattle.packet.specs.Packet.{packet_of, write_packet, checked, judged, rest_of, read_packet}
use Rattle.packet.specs.Steps.{payload_in, body_of}

pub write_good : (p : List ℕ) → (length p ≡ 0 → ⊥) → length p ≤ 2048 → write_packet p ≡ Ok (packet_of p)
write_good p h k = simp (ne_eqb (length p) 0 h, le-ltb 2048 (length p) k)

-- ---- what the first walk tells of a body

module _ (u : Option (List ℕ)) where
  pub body_some : (r : Body) → (let b : Option Body = Some r in b) ≡ body_of u → (u ≡ Some (payload_in u)) × (r.count ≡ length (payload_in u)) × (r.register ≡ register_after (payload_in u))
  body_some r e = by u e
    where
      by : (v : Option (List ℕ)) → (let b : Option Body = Some r in b) ≡ body_of v → (v ≡ Some (payload_in v)) × (r.count ≡ length (payload_in v)) × (r.register ≡ register_after (payload_in v))
      by (Some p) e = let r' : r ≡ record { count = length p; register = register_after p } = cc in (refl, ap (λ (b : Body). b.count) r', ap (λ (b : Body). b.register) r')
      by None e = absurd cc

-- ---- what is judged of a body that is sent for a payload of the right size

both : {A : Type 0} (x y : Bool) (p q : A) → cond (x && y) p q ≡ cond (not (x && (y && true))) q p
both true true p q = refl
both true false p q = refl
both false y p q = refl

module _ (u : Option (List ℕ)) (r : Body) (e : (let b : Option Body = Some r in b) ≡ body_of u) (z : r.count ≡ 0 → ⊥) (h : r.count ≤ 2048) (a b : ℕ) where
  -- ETB after the payload makes the register the check
  check_is : (c : ℕ) → c ≡ stepped r.register 0x17 → check (payload_in u) ≡ c
  check_is c s = sym (s ∙ ap (λ (n : ℕ). stepped n 0x17) (body_some u r e).2 ∙ step_check (payload_in u))

  sized_is : judged u a b ≡ checked (payload_in u) a b
  sized_is =
      let (i, l, m) = body_some u r e in
      ap (λ (v : Option (List ℕ)). judged v a b) i ∙ rw (← l, ne_eqb r.count 0 z, le-ltb 2048 r.count h) refl

  -- the two bytes and the check's, compared
  pub judged_by : (c : ℕ) (bytes : List ℕ) (t : Bool) → c < 2 ^ 16 → c ≡ stepped r.register 0x17 → bytes ≡ c / 256 % 256 ∷ c % 256 ∷ [] → t ≡ not (pointwise nat_eq (a ∷ b ∷ []) bytes)
      → judged u a b ≡ cond t (Err WrongCheck) (Ok (payload_in u))
  judged_by c bytes t small s k f =
      let high : c / 256 % 256 ≡ c / 256 = omega arith in
      let g : t ≡ not (eqb a (c / 256) && (eqb b (c % 256) && true)) = f ∙ rw (k, high) refl in
      sized_is ∙ rw (check_is c s, g) (both (eqb a (c / 256)) (eqb b (c % 256)) (Ok (payload_in u)) (Err WrongCheck))

pub read_empty : (b : List ℕ) → length b ≡ 0 → read_packet b ≡ Err NoPacket
unfolding read_packet
read_empty [] h = refl
read_empty (x ∷ xs) h = absurd (omega arith)

pub read_syn : (b : List ℕ) → (length b ≡ 0 → ⊥) → get_or b 0 0 ≡ 0x16 → read_packet b ≡ rest_of (take (length b - 1) (drop 1 b))
unfolding read_packet
read_syn [] h e = absurd (h refl)
read_syn (x ∷ xs) h e = rw (eq-eqb x 0x16 e, take_all (suc (length xs) - 1) xs (omega arith)) refl

pub read_other : (b : List ℕ) → (length b ≡ 0 → ⊥) → (get_or b 0 0 ≡ 0x16 → ⊥) → read_packet b ≡ Err NoPacket
unfolding read_packet
read_other [] h e = refl
read_other (x ∷ xs) h e = simp (ne_eqb x 0x16 e)
