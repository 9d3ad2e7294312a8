-- `packet::put_packet` meets its contract: SYN and the stuffed payload, and the ending after them.
use native.Mathlib.Omega.{arith}
use mathlib.Core.Path.{◌≡◌, ap, ◌∙◌}
use mathlib.Core.List.{List, [], ◌∷◌}
use Prim.Native.Nat.{ℕ, ◌+◌, ◌≤◌, ◌/◌, ◌%◌}
use native.Mathlib.Nat.{zero-add}
use lib.ListN.{length}
use Rattle.crc16.specs.Crc.{check}
use Rattle.crc16.specs.Register.{stepped}
use Rattle.crc16.proofs.Steps.{step_check}
use Rattle.packet.specs.Substitution.{stuff}
use Rattle.packet.specs.Packet.{ending}
use Rattle.answer.specs.Answers.{over}
use Rattle.answer.specs.Laid.{pasted}
use Rattle.answer.proofs.Laid.{pasted_start, over_long}
use Rattle.packet.proofs.Stuffing.{packet_long, packet_laid}
use Rattle.packet.proofs.put_packet.Goals as goal

pub put_stuffed-at-requires : goal.put_stuffed-at-requires
put_stuffed-at-requires c = omega (arith, packet_long c.args.payload.now, c.requires)

pub put_ending-requires : goal.put_ending-requires
put_ending-requires c =
    let a = c.args in
    let p = a.payload.now in
    let o = a.out.now in
    let q = c.put_stuffed-at in
    let n = packet_long p in
    let at : q.result.at ≡ length (0x16 ∷ stuff p) = q.ensures.put.next ∙ zero-add (length (0x16 ∷ stuff p)) in
    let old : q.new.out ≡ over (0x16 ∷ stuff p) o = q.ensures.put.bytes ∙ pasted_start (0x16 ∷ stuff p) o in
    let h : q.result.at + 3 ≤ length q.new.out =
    omega (arith, n, at, ap length old, over_long (0x16 ∷ stuff p) o (omega (arith, n, c.requires)), c.requires) in
    h

pub returns : goal.returns
returns c =
    let a = c.args in
    let p = a.payload.now in
    let o = a.out.now in
    let q = c.put_stuffed-at in
    let at : q.result.at ≡ length (0x16 ∷ stuff p) = q.ensures.put.next ∙ zero-add (length (0x16 ∷ stuff p)) in
    let old : q.new.out ≡ over (0x16 ∷ stuff p) o = q.ensures.put.bytes ∙ pasted_start (0x16 ∷ stuff p) o in
    let sum : c.step.result ≡ check p = c.step.ensures ∙ ap (λ (r : ℕ). stepped r 0x17) q.ensures.met ∙ step_check p in
    c.put_ending.ensures
    ∙ ap (λ (k : ℕ). pasted q.new.out q.result.at (0x17 ∷ k / 256 ∷ k % 256 ∷ [])) sum
    ∙ ap (λ (l : List ℕ). pasted l q.result.at (ending p)) old
    ∙ ap (λ (n : ℕ). pasted (over (0x16 ∷ stuff p) o) n (ending p)) at
    ∙ packet_laid p o
