-- Calls of the machine against its run: a call does what the bytes that it took do, one by one.
use mathlib.Core.Path.{◌≡◌, refl, sym, ap, ◌∙◌}
use mathlib.Core.Bool.{Bool, true, false, cond, false≢true}
use mathlib.Core.List.{List, [], ◌∷◌, ◌++◌, append-nil, append_assoc}
use Prim.Native.Nat.{ℕ, zero, suc}
use lib.ListN.{take, drop}
use Rattle.device.specs.Events.{Event}
use Rattle.device.specs.Events.Event.{byte}
use Rattle.device.specs.Machine.{Machine, Stepped, Called, step, is_none, one_more, call}
use Rattle.history.specs.Calls.{bytes_then}
use Rattle.history.specs.Reading.{after, run}

-- ---- one history after another

after_join : (a b : List ℕ) (s : Stepped) → after a (after b s) ≡ after (a ++ b) s
after_join a b s = ap (λ (q : List ℕ). record { machine = s.machine; reply = q }) (sym (append_assoc a b s.reply))

-- the run over two histories is the run over the first, and then over the second
pub run_append : (m : Machine) (a b : List Event) → run m (a ++ b) ≡ after (run m a).reply (run (run m a).machine b)
unfolding run
run_append m [] b = refl
run_append m (e ∷ a) b = append_more m e a b (run_append (step m e).machine a b)
  where
    append_more : (m : Machine) (e : Event) (a b : List Event)
        → run (step m e).machine (a ++ b) ≡ after (run (step m e).machine a).reply (run (run (step m e).machine a).machine b)
        → after (step m e).reply (run (step m e).machine (a ++ b))
        ≡ after ((step m e).reply ++ (run (step m e).machine a).reply) (run (run (step m e).machine a).machine b)
    append_more m e a b ih = ap (after (step m e).reply) ih ∙ after_join (step m e).reply (run (step m e).machine a).reply (run (run (step m e).machine a).machine b)

-- ---- a piece

-- the bytes of a piece are its first ones, and then the others
pub bytes_split : (n : ℕ) (piece : List ℕ) (h : List Event) → bytes_then piece h ≡ bytes_then (take n piece) [] ++ bytes_then (drop n piece) h
unfolding bytes_then
bytes_split zero piece h = refl
bytes_split (suc n) [] h = refl
bytes_split (suc n) (b ∷ bs) h = ap (λ (t : List Event). byte b ∷ t) (bytes_split n bs h)

-- ---- a call

is_none_lem : (xs : List ℕ) → is_none xs ≡ true → xs ≡ []
is_none_lem [] e = refl
is_none_lem (x ∷ xs) e = absurd (false≢true e)

-- what the run over the bytes that a call took comes to
abbrev CallIs : Machine → List ℕ → Called → Type 0
CallIs m piece c = run m (bytes_then (take c.taken piece) []) ≡ record { machine = c.machine; reply = c.reply }

call_more : (m : Machine) (b : ℕ) (bs : List ℕ) (c : Called) (t : Bool) → is_none (step m (byte b)).reply ≡ t → CallIs (step m (byte b)).machine bs c
    → CallIs m (b ∷ bs) (cond t (one_more c) (record { machine = (step m (byte b)).machine; taken = 1; reply = (step m (byte b)).reply }))
unfolding run bytes_then
call_more m b bs c true e ih = ap (after (step m (byte b)).reply) ih ∙ ap (λ (q : List ℕ). record { machine = c.machine; reply = q ++ c.reply }) (is_none_lem (step m (byte b)).reply e)
call_more m b bs c false e ih = ap (λ (q : List ℕ). record { machine = (step m (byte b)).machine; reply = q }) (append-nil (step m (byte b)).reply)

call_is : (m : Machine) (piece : List ℕ) → CallIs m piece (call m piece)
unfolding call run bytes_then
call_is m [] = refl
call_is m (b ∷ bs) = call_more m b bs (call (step m (byte b)).machine bs) (is_none (step m (byte b)).reply) refl (call_is (step m (byte b)).machine bs)

-- ONE CALL leaves and replies what the bytes that it took do, one by one
pub call_run : (m : Machine) (piece : List ℕ)
    → ((call m piece).machine ≡ (run m (bytes_then (take (call m piece).taken piece) [])).machine)
    × ((call m piece).reply ≡ (run m (bytes_then (take (call m piece).taken piece) [])).reply)
call_run m piece =
    (ap {B = Machine} (λ (s : Stepped). s.machine) (sym (call_is m piece)), ap {B = List ℕ} (λ (s : Stepped). s.reply) (sym (call_is m piece)))
