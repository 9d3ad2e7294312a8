-- SYN and the bytes so far, with substitutions, are laid over the start, and the register has met them.
use Rattle.std.proofs.Common.{◌≡◌, ℕ, List, ◌∷◌, length, take}
use Rattle.crc16.specs.Register.{register_after}
use Rattle.packet.specs.Substitution.{stuff}
use Rattle.answer.specs.Answers.{over}
use Rattle.packet.proofs.put_stuffed.Given as goal

abbrev pub sofar : List ℕ → ℕ → List ℕ
sofar p i = 0x16 ∷ stuff (take i p)

abbrev pub invariant-loop-b : goal.invariant-loop-b
invariant-loop-b l =
    (l.at ≡ length (sofar l.payload l.b-index)) × (l.out ≡ over (sofar l.payload l.b-index) l.initial.out) × (length l.out ≡ length l.initial.out)
    × (l.register ≡ register_after (take l.b-index l.payload))
