-- The calls of the code, by their promises: they come to the run over what was handed over.
use mathlib.Core.Path.{◌≡◌, refl, sym, ap, ◌∙◌}
use mathlib.Core.List.{List, [], ◌∷◌, ◌++◌, append-nil, append_assoc}
use Prim.Native.Nat.{ℕ, zero, suc}
use lib.ListN.{length, take, drop}
use lib.Seq.{take_at}
use Rattle.state.specs.declared.Device.{Device}
use Rattle.state.specs.State.{State, state_as}
use Rattle.state.specs.Sound.{refusal_of}
use Rattle.device.specs.Events.{Event}
use Rattle.device.specs.Events.Event.{timeout, restart}
use Rattle.device.specs.Machine.{Machine, Stepped, step, call}
use Rattle.device.specs.Between.{machine_of, state_of}
use Rattle.device.specs.Promise.{Received, Left, after_piece, after_event, unless, Gives}
use Rattle.device.specs.Claims.{Legal}
use Rattle.device.proofs.Back.{machine_back}
use Rattle.history.specs.Calls.{bytes_then, still_there, Calls}
use Rattle.history.specs.Calls.Calls.{done, received, timed_out, restarts, refused_on}
use Rattle.history.specs.Reading.{run}
use Rattle.history.proofs.LegalRuns.{run_legal}
use Rattle.history.proofs.Cutting.{run_append, bytes_split, call_run}

-- what calls that hand over h up to rest come to: the run over what was handed over
pub record Handed (m : Machine) (h rest : List Event) (y : State) (said : List ℕ) : Type 0 where
  pub prefix : List Event
  pub splits : h ≡ prefix ++ rest
  pub state_is : y ≡ state_of (run m prefix).machine
  pub said_is : said ≡ (run m prefix).reply

-- so for every legal machine with the state x
abbrev Follows : State → List Event → List Event → State → List ℕ → Type 0
Follows x h rest y said = (m : Machine) → Legal m → x ≡ state_of m → Handed m h rest y said

-- ---- one call and then others

-- a call that hands over `front`, and then others
joined : (m : Machine) → Legal m → (front h h' rest : List Event) → h ≡ front ++ h' → (x y : State) (first said : List ℕ)
    → x ≡ state_of (run m front).machine → first ≡ (run m front).reply → Follows x h' rest y said → Handed m h rest y (first ++ said)
joined m g front h h' rest s x y first said e f ih =
    let i = ih (run m front).machine (run_legal m front g) e in
    let w = run_append m front i.prefix in
    record {
      prefix = front ++ i.prefix;
      splits = s ∙ ap (λ (t : List Event). front ++ t) i.splits ∙ sym (append_assoc front i.prefix rest);
      state_is = i.state_is ∙ ap (λ (t : Stepped). state_of t.machine) (sym w);
      said_is = (λ j. f j ++ i.said_is j) ∙ ap {B = List ℕ} (λ (t : Stepped). t.reply) (sym w);
    }

-- a call that hands over nothing, and then others
stays : (m : Machine) → Legal m → (h h' rest : List Event) → h ≡ h' → (x y : State) (first said : List ℕ)
    → x ≡ state_of m → first ≡ [] → Follows x h' rest y said → Handed m h rest y (first ++ said)
unfolding run
stays m g h h' rest s x y first said e f ih = joined m g [] h h' rest s x y first said e f ih

-- ---- what a call gives

-- the state, the bytes taken and what is written, from what the call leaves
record Came (refusal : ℕ) (left : Left) (r : Received) (out' live' loading' : List ℕ) : Type 0 where
  state_is : state_as r.device live' loading' ≡ left.state
  refusal_is : r.refusal ≡ refusal
  taken_is : r.taken ≡ left.taken
  said_is : take r.written out' ≡ left.reply

came : (n : ℕ) (left : Left) (out : List ℕ) (r : Received) (out' live' loading' : List ℕ) → Gives n left out r out' live' loading' → Came n left r out' live' loading'
came n left out r out' live' loading' g = record {
  state_is = λ i. state_as (g.result i).device (g.live_is i) (g.loading_is i);
  refusal_is = ap {B = ℕ} (λ (q : Received). q.refusal) g.result;
  taken_is = ap {B = ℕ} (λ (q : Received). q.taken) g.result;
  said_is = (λ i. take (g.result i).written (g.said i)) ∙ take_at left.reply (drop (length left.reply) out) (length left.reply) refl;
}

-- ---- a piece

-- the call on a legal machine's state is the machine's
piece_left_lem : (m : Machine) → Legal m → (x : State) → x ≡ state_of m → (piece : List ℕ)
    → after_piece piece x ≡ record { state = state_of (call m piece).machine; taken = (call m piece).taken; reply = (call m piece).reply }
unfolding after_piece
piece_left_lem m g x e piece =
    let f : machine_of x ≡ m = ap machine_of e ∙ machine_back m g in
    λ i. record { state = state_of (call (f i) piece).machine; taken = (call (f i) piece).taken; reply = (call (f i) piece).reply }

module _ (x y : State) (rest : List Event) (said piece : List ℕ) (h : List Event) (out : List ℕ) (r : Received) (out' live' loading' : List ℕ)
    (ih : Follows (state_as r.device live' loading') (bytes_then (drop r.taken piece) h) rest y said) where
  -- not refused
  piece_good : Came 0 (after_piece piece x) r out' live' loading' → Follows x (bytes_then piece h) rest y (take r.written out' ++ said)
  piece_good c m g e =
      let l = piece_left_lem m g x e piece in
      let k : r.taken ≡ (call m piece).taken = c.taken_is ∙ ap {B = ℕ} (λ (q : Left). q.taken) l in
      let w = call_run m piece in
      joined m g (bytes_then (take r.taken piece) []) (bytes_then piece h) (bytes_then (drop r.taken piece) h) rest (bytes_split r.taken piece h)
      (state_as r.device live' loading') y (take r.written out') said
      (c.state_is ∙ ap {B = State} (λ (q : Left). q.state) l ∙ ap state_of w.0 ∙ ap (λ (n : ℕ). state_of (run m (bytes_then (take n piece) [])).machine) (sym k))
      (c.said_is ∙ ap {B = List ℕ} (λ (q : Left). q.reply) l ∙ w.1 ∙ ap (λ (n : ℕ). (run m (bytes_then (take n piece) [])).reply) (sym k))
      ih

  -- refused: all of the piece is still there
  piece_refused : (n : ℕ) → Came n (record { state = x; taken = 0; reply = [] }) r out' live' loading' → Follows x (bytes_then piece h) rest y (take r.written out' ++ said)
  piece_refused n c m g e =
      stays m g (bytes_then piece h) (bytes_then (drop r.taken piece) h) rest (ap (λ (k : ℕ). bytes_then (drop k piece) h) (sym c.taken_is))
      (state_as r.device live' loading') y (take r.written out') said (c.state_is ∙ e) c.said_is ih

  piece_either : (n : ℕ) → Gives n (unless n x (after_piece piece x)) out r out' live' loading' → Follows x (bytes_then piece h) rest y (take r.written out' ++ said)
  piece_either zero g = piece_good (came 0 (after_piece piece x) out r out' live' loading' g)
  piece_either (suc n) g = piece_refused (suc n) (came (suc n) (record { state = x; taken = 0; reply = [] }) out r out' live' loading' g)

-- ---- a timeout or a restart

-- the call on a legal machine's state is the machine's step
event_left_lem : (m : Machine) → Legal m → (x : State) → x ≡ state_of m → (e : Event)
    → after_event e x ≡ record { state = state_of (step m e).machine; taken = 0; reply = (step m e).reply }
unfolding after_event
event_left_lem m g x p e =
    let f : machine_of x ≡ m = ap machine_of p ∙ machine_back m g in
    λ i. record { state = state_of (step (f i) e).machine; taken = 0; reply = (step (f i) e).reply }

-- the run over one event is its step
run_one : (m : Machine) (e : Event) → ((step m e).machine ≡ (run m (e ∷ [])).machine) × ((step m e).reply ≡ (run m (e ∷ [])).reply)
unfolding run
run_one m e = (refl, sym (append-nil (step m e).reply))

module _ (x y : State) (rest : List Event) (said : List ℕ) (e : Event) (h : List Event) (out : List ℕ) (r : Received) (out' live' loading' : List ℕ)
    (ih : Follows (state_as r.device live' loading') (still_there r.refusal e h) rest y said) where
  -- not refused
  event_good : Came 0 (after_event e x) r out' live' loading' → Follows x (e ∷ h) rest y (take r.written out' ++ said)
  event_good c m g p =
      let l = event_left_lem m g x p e in
      let w = run_one m e in
      joined m g (e ∷ []) (e ∷ h) (still_there r.refusal e h) rest (ap (λ (n : ℕ). e ∷ still_there n e h) (sym c.refusal_is))
      (state_as r.device live' loading') y (take r.written out') said
      (c.state_is ∙ ap {B = State} (λ (q : Left). q.state) l ∙ ap state_of w.0)
      (c.said_is ∙ ap {B = List ℕ} (λ (q : Left). q.reply) l ∙ w.1)
      ih

  -- refused: it is still there
  event_refused : (n : ℕ) → Came (suc n) (record { state = x; taken = 0; reply = [] }) r out' live' loading' → Follows x (e ∷ h) rest y (take r.written out' ++ said)
  event_refused n c m g p =
      stays m g (e ∷ h) (still_there r.refusal e h) rest (ap (λ (k : ℕ). still_there k e h) (sym c.refusal_is))
      (state_as r.device live' loading') y (take r.written out') said (c.state_is ∙ p) c.said_is ih

  event_either : (n : ℕ) → Gives n (unless n x (after_event e x)) out r out' live' loading' → Follows x (e ∷ h) rest y (take r.written out' ++ said)
  event_either zero g = event_good (came 0 (after_event e x) out r out' live' loading' g)
  event_either (suc n) g = event_refused n (came (suc n) (record { state = x; taken = 0; reply = [] }) out r out' live' loading' g)

-- ---- a refused call on other stores

module _ (x y : State) (h rest : List Event) (said live loading : List ℕ) (left : Left) (out : List ℕ) (r : Received) (out' live' loading' : List ℕ)
    (ih : Follows (state_as r.device x.live x.loading) h rest y said) where
  -- the state does not change at all
  other_either : (n : ℕ) → Gives n (unless n (state_as x.device live loading) left) out r out' live' loading' → (r.refusal ≡ 0 → ⊥)
      → Follows x h rest y (take r.written out' ++ said)
  other_either zero g f m k e = absurd (f (came 0 left out r out' live' loading' g).refusal_is)
  other_either (suc n) g f m k e =
      let c = came (suc n) (record { state = state_as x.device live loading; taken = 0; reply = [] }) out r out' live' loading' g in
      let d : r.device ≡ x.device = ap {B = Device} (λ (q : State). q.device) c.state_is in
      stays m k h h rest refl (state_as r.device x.live x.loading) y (take r.written out') said
      (ap (λ (q : Device). state_as q x.live x.loading) d ∙ e) c.said_is ih

-- ---- ANY CALLS

done_follows : (x : State) (h : List Event) → Follows x h h x []
unfolding run
done_follows x h m g e = record { prefix = []; splits = refl; state_is = e; said_is = refl }

-- any calls on a legal machine's state come to the machine's run over what they handed over
pub handed : {x : State} {h rest : List Event} {y : State} {said : List ℕ} → Calls x h rest y said → (m : Machine) → Legal m → x ≡ state_of m → Handed m h rest y said
handed (done {x = x} {h = h}) = done_follows x h
handed (received {x = x} {y = y} {rest = rest} {said = said} piece h out r out' live' loading' a c) =
    piece_either x y rest said piece h out r out' live' loading' (handed c) (refusal_of (length out) x) a
handed (timed_out {x = x} {y = y} {h = h} {rest = rest} {said = said} out r out' live' loading' a c) =
    event_either x y rest said timeout h out r out' live' loading' (handed c) (refusal_of (length out) x) a
handed (restarts {x = x} {y = y} {h = h} {rest = rest} {said = said} out r out' live' loading' a c) =
    event_either x y rest said restart h out r out' live' loading' (handed c) (refusal_of (length out) x) a
handed (refused_on {x = x} {y = y} {h = h} {rest = rest} {said = said} live loading left out r out' live' loading' a f c) =
    other_either x y h rest said live loading left out r out' live' loading' (handed c) (refusal_of (length out) (state_as x.device live loading)) a f
