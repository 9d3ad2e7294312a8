-- One payload byte more is laid after those before it, and the register meets it.
use Prim.Native.Nat.{ℕ, ◌+◌, ◌≤◌, ◌<◌}
use mathlib.Core.Path.{◌≡◌, refl, sym, ◌∙◌, ap}
use mathlib.Core.List.{List, ◌∷◌}
use native.Mathlib.Omega.{arith}
use lib.ListN.{length, take, get_or, set, length-set, length-append}
use native.Mathlib.Numerals.{add-one}
use lib.Seq.{take-suc}
use Rattle.crc16.specs.Register.{stepped, register_after}
use Rattle.crc16.proofs.Steps.{step_none, step_after}
use Rattle.packet.specs.Substitution.{sent, stuff}
use Rattle.answer.specs.Answers.{over}
use Rattle.answer.specs.Laid.{pasted}
use Rattle.answer.proofs.Laid.{over_more, over_first}
use Rattle.packet.proofs.Stuffing.{stuff_more, stuff_split, stuff_next}
use borrow.Author.Rules.{rules}
use Rattle.packet.proofs.put_stuffed.Goals as goal

abbrev sofar : List ℕ → ℕ → List ℕ
sofar p i = 0x16 ∷ stuff (take i p)

more : (p l : List ℕ) (i : ℕ) → i < length p → pasted (over (sofar p i) l) (length (sofar p i)) (sent (get_or p i 0)) ≡ over (sofar p (i + 1)) l
more p l i h = over_more (sofar p i) (sent (get_or p i 0)) l ∙ ap (λ (s : List ℕ). over (0x16 ∷ s) l) (sym (stuff_more p i h))

longer : (p : List ℕ) (i : ℕ) → i < length p → length (sofar p (i + 1)) ≡ length (sofar p i) + length (sent (get_or p i 0))
longer p i h = ap (λ (s : List ℕ). length (0x16 ∷ s)) (stuff_more p i h) ∙ length-append (sofar p i) (sent (get_or p i 0))

met : (p : List ℕ) (i r s : ℕ) → i < length p → r ≡ register_after (take i p) → s ≡ stepped r (get_or p i 0) → s ≡ register_after (take (i + 1) p)
met p i r s h e f =
    f ∙ ap (λ (n : ℕ). stepped n (get_or p i 0)) e ∙ step_after (take i p) (get_or p i 0)
    ∙ ap register_after (sym (take-suc p i 0 h) ∙ ap (λ (n : ℕ). take n p) (sym (add-one i)))

pub loop-b-init : goal.loop-b-init
unfolding stuff
loop-b-init c = (refl, over_first 0x16 c.args.out.now (omega arith), refl, sym step_none)

pub put_sent-at-requires : goal.put_sent-at-requires
put_sent-at-requires c =
    let l = c.loop-b in
    let p = c.args.payload.now in
    let h : l.at + length (sent (get_or p l.b-index 0)) ≤ length l.out =
    omega (arith, stuff_split p l.b-index, stuff_next p l.b-index (omega arith), l.invariant.0, l.invariant.2, c.requires, length-set c.args.out.now 0 0x16) in
    h

pub loop-b-preserved : goal.loop-b-preserved
loop-b-preserved c =
    let l = c.loop-b in
    let p = c.args.payload.now in
    let o = set c.args.out.now 0 0x16 in
    let put = c.put_sent-at.ensures in (
      put.next ∙ ap (λ (n : ℕ). n + length (sent (get_or p l.b-index 0))) l.invariant.0 ∙ sym (longer p l.b-index (omega arith)),
      put.bytes ∙ ap (λ (n : ℕ). pasted l.out n (sent (get_or p l.b-index 0))) l.invariant.0 ∙ ap (λ (x : List ℕ). pasted x (length (sofar p l.b-index)) (sent (get_or p l.b-index 0))) l.invariant.1 ∙ more p o l.b-index (omega arith),
      search rules,
      met p l.b-index l.register c.step-register.result (omega arith) l.invariant.3 c.step-register.ensures,
    )
