-- What the public calls give: refused and unchanged, or what the machine's call leaves.
use mathlib.Core.Path.{◌≡◌, refl, sym, ap, subst, ◌∙◌}
use mathlib.Core.Bool.{Bool, true, false, cond}
use Rattle.std.specs.Prelude.{Option, Some, None}
use mathlib.Core.List.{List, []}
use Prim.Native.Nat.{ℕ, zero, suc, ◌≤◌}
use native.Mathlib.Omega.{arith}
use lib.ListN.{length}
use Rattle.reception.specs.declared.Line.{Line}
use Rattle.reception.specs.Reception.{idle}
use Rattle.execution.specs.declared.Tables.{Tables}
use Rattle.execution.specs.Stored.{no_load}
use Rattle.execution.specs.Promise.{tables_with, Drops}
use Rattle.state.specs.declared.Held.{Held}
use Rattle.state.specs.declared.Device.{Device}
use Rattle.state.specs.State.{State, state_as, line_in, with_line, with_held, held_as, can_resend}
use Rattle.state.specs.Sound.{line_sound, held_sound, refusal_of}
use Rattle.state.proofs.Accepting.{line_short}
use Rattle.gathering.specs.declared.Gathered.{Gathered}
use Rattle.device.specs.Events.Event.{timeout, restart}
use Rattle.device.specs.Promise.{Received, Left, after_piece, after_event, unless, Gives, Answers}
use Rattle.gathering.specs.Gathering.{asks_in, Got, gathered, asked_of, Gathers}
use Rattle.device.specs.Steps.{Replied, Told', replied_in, Does}
use Rattle.gathering.proofs.Kept.{gathered_within, gathered_asks}
use Rattle.device.proofs.Replies.{Known}
use Rattle.device.proofs.Leaving.{line_to, gathered_in, piece_asked, piece_silent, timeout_left, restart_left}

-- ---- refused or not

abbrev pub refused_with : Device → ℕ → Received
refused_with d n = record { device = d; refusal = n; taken = 0; written = 0 }

-- a call that is not refused
pub good_gives : (x : State) (left : Left) (out : List ℕ) (n : ℕ) (r : Received) (out' live' loading' : List ℕ) → n ≡ refusal_of (length out) x → n ≡ 0
    → Gives 0 left out r out' live' loading' → Answers x left out r out' live' loading'
good_gives x left out n r out' live' loading' e h g = subst (λ (k : ℕ). Gives k (unless k x left) out r out' live' loading') (sym h ∙ e) g

-- ---- the byte that is answered, if one is

asked_if : (t : Bool) (l b : ℕ) → (let o : Option ℕ = cond t (Some l) None in o) ≡ Some b → (t ≡ true) × (l ≡ b)
asked_if true l b e = (refl, cc)
asked_if false l b e = absurd cc

asked_not : (t : Bool) (l : ℕ) → (let o : Option ℕ = cond t (Some l) None in o) ≡ None → t ≡ false
asked_not true l e = absurd cc
asked_not false l e = refl

asked_some : (g : Got) (b : ℕ) → asked_of g ≡ Some b → (g.asked ≡ true) × (g.last ≡ b)
asked_some g b e = asked_if g.asked g.last b e

asked_none : (g : Got) → asked_of g ≡ None → g.asked ≡ false
asked_none g e = asked_not g.asked g.last e

-- ---- a piece

module _ (x : State) (piece : List ℕ) (line : Line) (resend : Bool) (r : Gathered) (store' : List ℕ) (l : line ≡ line_in x.device) (s : resend ≡ can_resend x.device.held)
    (g : Gathers (gathered resend line x.device.store 0 piece) r store') where
  got : Gathers (gathered_in x piece) r store'
  got =
      subst (λ (q : Line). Gathers (gathered (can_resend x.device.held) q x.device.store 0 piece) r store') l
      (subst (λ (q : Bool). Gathers (gathered q line x.device.store 0 piece) r store') s g)

  asked_is : r.asked ≡ asked_of (gathered_in x piece)
  asked_is = ap (λ (q : Gathered). q.asked) got.is

  -- at most 2,048 payload bytes are placed
  pub got_within : line_sound x.device ≡ true → r.line.count ≤ 2048
  got_within h =
      let w = gathered_within (can_resend x.device.held) (line_in x.device) x.device.store 0 piece (line_short x.device h) in
      let e : r.line.count ≡ (gathered_in x piece).line.count = ap (λ (q : Gathered). q.line.count) got.is in
      omega (arith, w, e)

  -- the byte that is answered is
  pub got_asks : (b : ℕ) → r.asked ≡ Some b → asks_in r.line.state (can_resend x.device.held) b ≡ true
  got_asks b e =
      let (t, l) = asked_some (gathered_in x piece) b (sym asked_is ∙ e) in
      ap (λ (q : Gathered). asks_in q.line.state (can_resend x.device.held) b) got.is
      ∙ ap (asks_in (gathered_in x piece).line.state (can_resend x.device.held)) (sym l)
      ∙ gathered_asks (can_resend x.device.held) (line_in x.device) x.device.store 0 piece t

  module _ (k : Known x) (h : held_sound x.device.held ≡ true) (d' : Device) (w : d' ≡ with_line x.device r.line store') where
    -- a piece with no byte that is answered
    pub silent_gives : (out : List ℕ) → r.asked ≡ None
        → Gives 0 (after_piece piece x) out (record { device = d'; refusal = 0; taken = r.taken; written = 0 }) out x.live x.loading
    silent_gives out e =
        let p : d' ≡ with_line x.device (gathered_in x piece).line (gathered_in x piece).store = w ∙ (λ i. with_line x.device (got.is i).line (got.store_is i)) in
        subst (λ (q : Left). Gives 0 q out (record { device = d'; refusal = 0; taken = r.taken; written = 0 }) out x.live x.loading)
        (sym (piece_silent x piece k h (asked_none (gathered_in x piece) (sym asked_is ∙ e))))
        (record { result = λ i. record { device = p i; refusal = 0; taken = (got.is i).taken; written = 0 }; said = refl; live_is = refl; loading_is = refl })

    -- and one with such a byte at its end
    pub asked_gives : (out : List ℕ) (b : ℕ) (q : Replied) (out' live' loading' : List ℕ) → r.asked ≡ Some b
        → Does (replied_in d'.reception (state_as d' x.live x.loading) b) out q out' live' loading'
        → Gives 0 (after_piece piece x) out (record { device = q.device; refusal = 0; taken = r.taken; written = q.written }) out' live' loading'
    asked_gives out b q out' live' loading' e does =
        let (a, l) = asked_some (gathered_in x piece) b (sym asked_is ∙ e) in
        let t : replied_in d'.reception (state_as d' x.live x.loading) b ≡ replied_in (gathered_in x piece).line.state (line_to x (gathered_in x piece).line (gathered_in x piece).store) (gathered_in x piece).last =
        ap (λ (v : Device). replied_in v.reception (state_as v x.live x.loading) b) w
        ∙ (λ i. replied_in (got.is i).line.state (line_to x (got.is i).line (got.store_is i)) (sym l i)) in
        let f = subst (λ (v : Told'). Does v out q out' live' loading') t does in
        subst (λ (v : Left). Gives 0 v out (record { device = q.device; refusal = 0; taken = r.taken; written = q.written }) out' live' loading') (sym (piece_asked x piece k h a))
        (record {
          result = λ i. record { device = (f.is i).device; refusal = 0; taken = (got.is i).taken; written = (f.is i).written };
          said = f.said;
          live_is = f.live_is;
          loading_is = f.loading_is;
        })

-- ---- a timeout and a restart

pub timeout_gives : (x : State) → Known x → held_sound x.device.held ≡ true → (out : List ℕ) (line : Line) (d' : Device) → line ≡ idle
    → d' ≡ with_line x.device line x.device.store → Gives 0 (after_event timeout x) out (refused_with d' 0) out x.live x.loading
timeout_gives x k h out line d' e f =
    let p = f ∙ ap (λ (l : Line). with_line x.device l x.device.store) e in
    subst (λ (v : Left). Gives 0 v out (refused_with d' 0) out x.live x.loading) (sym (timeout_left x k h))
    (record { result = ap (λ (d : Device). refused_with d 0) p; said = refl; live_is = refl; loading_is = refl })

-- a device with other tables
abbrev pub with_tables : Device → Tables → Device
with_tables d t = record { reception = d.reception; spoiled = d.spoiled; count = d.count; store = d.store; held = d.held; tables = t }

pub restart_gives : (x : State) → Known x → (out : List ℕ) (line : Line) (held : Held) (s d : Device) (t : Tables) (loading' : List ℕ) → line ≡ idle → held ≡ held_as [] 0
    → s ≡ with_line x.device line x.device.store → d ≡ with_held s held → Drops d.tables x.loading t loading'
    → Gives 0 (after_event restart x) out (refused_with (with_tables d t) 0) out x.live loading'
restart_gives x k out line held s d t loading' l h es ed f =
    let at = es ∙ ap (λ (q : Line). with_line x.device q x.device.store) l in
    let p : d ≡ with_held (with_line x.device idle x.device.store) (held_as [] 0) = ed ∙ (λ i. with_held (at i) (h i)) in
    let u : t ≡ tables_with x.device.tables no_load = f.tables' ∙ ap (λ (q : Device). tables_with q.tables no_load) p in
    subst (λ (v : Left). Gives 0 v out (refused_with (with_tables d t) 0) out x.live loading') (sym (restart_left x k))
    (record { result = λ i. refused_with (with_tables (p i) (u i)) 0; said = refl; live_is = refl; loading_is = f.store' })
