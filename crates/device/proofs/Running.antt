-- The replies, as the functions that make them leave them.
use mathlib.Core.Path.{◌≡◌, refl, sym, ap, subst, ◌∙◌}
use mathlib.Core.Bool.{Bool, true, false, ◌&&◌, false≢true}
use mathlib.Core.List.{List, [], ◌∷◌}
use Prim.Native.Nat.{ℕ, ◌-◌, ◌≤◌, ◌<◌}
use native.Mathlib.Omega.{arith}
use lib.ListN.{length, take}
use lib.Seq.{take_at}
use lib.Dec.{leb, ltb, eqb}
use borrow.Author.Tests.{eq-eqb, ne_eqb, leb-true, ltb-true}
use Rattle.answer.proofs.Parts.{and_left, and_right}
use Rattle.answer.specs.Answers.{over}
use Rattle.records.specs.Store.{zeros}
use Rattle.packet.specs.Packet.{packet_of}
use Rattle.reception.specs.declared.Reception.{Reception}
use Rattle.reception.specs.declared.Reception.TheVariants.{Idle}
use Rattle.reception.specs.Reception.{idle}
use Rattle.execution.specs.declared.Response.{Response}
use Rattle.execution.specs.Stored.{Stored}
use Rattle.execution.specs.Promise.{Executed, responded, Executes}
use Rattle.execution.proofs.Executing.{responded_short, responded_some}
use Rattle.state.specs.declared.Held.{Held}
use Rattle.state.specs.State.{State, device_as, stored_in, can_resend}
use Rattle.device.specs.Machine.{good_packet}
use Rattle.gathering.specs.Gathering.{asks_in}
use Rattle.device.specs.Steps.{Replied, payload_in, Told', tells, with_device, cancelled, resent, refused, ran, completed, replied_in, Says, Does, Sends}

module _ (p : List ℕ) (s : Stored) (r : Executed) (live' loading' : List ℕ) (g : Executes p s r live' loading') where
  length_is : r.response.length ≡ length (responded p s)
  length_is = ap (λ (q : Response). q.length) g.response

  -- the response has from 1 to 19 bytes
  pub response_some : 1 ≤ r.response.length
  response_some = omega (arith, length_is, responded_some p s)

  pub response_short : r.response.length ≤ 19
  response_short = omega (arith, length_is, responded_short p s)

-- ---- which reply it is

-- a complete packet that is good, and one that is not
pub completed_good : (x : State) (a b : ℕ) (p : List ℕ) → p ≡ payload_in x.device → good_packet x.device.spoiled p a b ≡ true → completed x a b ≡ ran x
unfolding completed
completed_good x a b p e t = rw (ap (λ (q : List ℕ). good_packet x.device.spoiled q a b) (sym e) ∙ t) refl

pub completed_bad : (x : State) (a b : ℕ) (p : List ℕ) → p ≡ payload_in x.device → good_packet x.device.spoiled p a b ≡ false → completed x a b ≡ refused x
unfolding completed
completed_bad x a b p e t = rw (ap (λ (q : List ℕ). good_packet x.device.spoiled q a b) (sym e) ∙ t) refl

-- an equal reply
pub does_as : (t u : Told') (out : List ℕ) (r : Replied) (out' live' loading' : List ℕ) → t ≡ u → Does u out r out' live' loading' → Does t out r out' live' loading'
does_as t u out r out' live' loading' e g = subst (λ (v : Told'). Does v out r out' live' loading') (sym e) g

-- a reply that leaves both stores
pub does_says : (x : State) (t : Told') (out : List ℕ) (r : Replied) (out' : List ℕ) → Says t out r out'
    → Does (tells (with_device x t.state.device) t.reply) out r out' x.live x.loading
does_says x t out r out' s = record { is = s.is; said = s.said; live_is = refl; loading_is = refl }
