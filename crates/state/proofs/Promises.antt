-- ONE RESULT: two results of a call that its promise allows for one entry are one.
use mathlib.Core.Path.{◌≡◌, sym, ◌∙◌}
use mathlib.Core.Bool.{Bool}
use mathlib.Core.List.{List, []}
use Prim.Native.Nat.{ℕ}
use Rattle.std.specs.Prelude.{Result}
use Rattle.answer.specs.declared.refusal.Refusal.{Refusal}
use Rattle.answer.specs.Refusals.{number_in}
use Rattle.answer.proofs.Promises.{same_answer}
use Rattle.reception.specs.declared.Line.{Line}
use Rattle.state.specs.declared.Held.{Held}
use Rattle.state.specs.declared.Device.{Device}
use Rattle.state.specs.State.{state_as, line_in, with_line, with_held, held_as, can_resend}
use Rattle.state.specs.Sound.{both_sized, refusal_of}

pub line_of_one : (device : Device) (r s : Line) → r ≡ line_in device → s ≡ line_in device → r ≡ s
line_of_one device r s e f = e ∙ sym f

pub nothing_held_one : (r s : Held) → r ≡ held_as [] 0 → s ≡ held_as [] 0 → r ≡ s
nothing_held_one r s e f = e ∙ sym f

pub with_line_one : (device : Device) (line : Line) (store : List ℕ) (r s : Device) → r ≡ with_line device line store → s ≡ with_line device line store → r ≡ s
with_line_one device line store r s e f = e ∙ sym f

pub with_held_one : (device : Device) (held : Held) (r s : Device) → r ≡ with_held device held → s ≡ with_held device held → r ≡ s
with_held_one device held r s e f = e ∙ sym f

pub sizes_good_one : (live loading : List ℕ) (r s : Bool) → r ≡ both_sized live loading → s ≡ both_sized live loading → r ≡ s
sizes_good_one live loading r s e f = e ∙ sym f

pub can_resend_one : (held : Held) (r s : Bool) → r ≡ can_resend held → s ≡ can_resend held → r ≡ s
can_resend_one held r s e f = e ∙ sym f

pub refusal_of_one : (device : Device) (room : ℕ) (live loading : List ℕ) (r s : ℕ) → r ≡ refusal_of room (state_as device live loading)
    → s ≡ refusal_of room (state_as device live loading) → r ≡ s
refusal_of_one device room live loading r s e f = e ∙ sym f

-- `judge`: one answer, which its number tells
pub judge_one : (device : Device) (room : ℕ) (live loading : List ℕ) (r s : Result (Unit {0}) Refusal) → number_in r ≡ refusal_of room (state_as device live loading)
    → number_in s ≡ refusal_of room (state_as device live loading) → r ≡ s
judge_one device room live loading r s e f = same_answer r s (e ∙ sym f)
