-- What is read from a stretch of bytes: outside up to the first 16h, in data up to the first 17h, and from the last 16h before it on.
use mathlib.Core.Path.{◌≡◌, refl, sym, ap, ◌∙◌}
use mathlib.Core.Bool.{Bool, true, false, ◌||◌, cond, false≢true}
use mathlib.Core.List.{List, [], ◌∷◌, ◌++◌, append_assoc, append-nil}
use Prim.Native.Nat.{ℕ}
use lib.ListN.{length}
use lib.Dec.{leb, eqb}
use borrow.Author.Tests.{eqb-true}
use Rattle.history.specs.Text.{has, up_to, after_first, after_last, Item, between}
use Rattle.history.specs.Text.Item.{can, nak}
use Rattle.history.proofs.Places.{or_left, or_right, last_none}
use Rattle.history.proofs.Heard.{Heard, begun, put, next_data, next13h, next, heard_at}
use Rattle.history.proofs.Heard.Heard.{outside, in_data, after13h, first_check, second_check}

-- the state after several bytes
unfoldable pub next_all : Heard → List ℕ → Heard
next_all r [] = r
next_all r (b ∷ bs) = next_all (next r b) bs

-- what several bytes complete
unfoldable pub items_from : Heard → List ℕ → List Item
items_from r [] = []
items_from r (b ∷ bs) = heard_at r b ++ items_from (next r b) bs

-- one more byte takes the state that the others leave
pub next_snoc : (r : Heard) (xs : List ℕ) (b : ℕ) → next_all r (xs ++ (b ∷ [])) ≡ next (next_all r xs) b
unfolding next_all
next_snoc r [] b = refl
next_snoc r (x ∷ xs) b = next_snoc (next r x) xs b

-- one more byte completes what it completes in that state
pub items_snoc : (r : Heard) (xs : List ℕ) (b : ℕ) → items_from r (xs ++ (b ∷ [])) ≡ items_from r xs ++ heard_at (next_all r xs) b
unfolding next_all items_from
items_snoc r [] b = append-nil (heard_at r b)
items_snoc r (x ∷ xs) b =
    ap (λ (t : List Item). heard_at r x ++ t) (items_snoc (next r x) xs b)
    ∙ sym (append_assoc (heard_at r x) (items_from (next r x) xs) (heard_at (next_all (next r x) xs) b))

-- ---- up to the first 16h

-- outside, a byte is CAN, NAK or ignored
idle_items : (x : ℕ) (is : List Item) → heard_at outside x ++ is ≡ cond (eqb x 0x18) (can ∷ is) (cond (eqb x 0x15) (nak ∷ is) is)
unfolding heard_at
idle_items x is = cases (eqb x 0x18) (eqb x 0x15)
  where
    cases : (t u : Bool) → cond t (can ∷ []) (cond u (nak ∷ []) []) ++ is ≡ cond t (can ∷ is) (cond u (nak ∷ is) is)
    cases true u = refl
    cases false true = refl
    cases false false = refl

-- so it is between packets
between_cons : (x : ℕ) (xs : List ℕ) → between (x ∷ xs) ≡ heard_at outside x ++ between xs
unfolding between
between_cons x xs = sym (idle_items x (between xs))

-- bytes outside, and then data
abbrev ToSyn : List ℕ → Type 0
ToSyn xs = items_from outside xs ≡ between (up_to 0x16 xs) ++ items_from begun (after_first 0x16 xs)

-- 16h is neither CAN nor NAK
syn_here : (x : ℕ) (xs : List ℕ) → x ≡ 0x16 → heard_at outside x ++ items_from begun xs ≡ between [] ++ items_from begun xs
unfolding heard_at between
syn_here x xs e = rw e refl

-- one byte, and the rest
to_syn_step : (x : ℕ) (xs : List ℕ) → ToSyn xs → ToSyn (x ∷ xs)
unfolding items_from next after_first up_to
to_syn_step x xs ih = cases (eqb x 0x16) refl
  where
    cases : (t : Bool) → eqb x 0x16 ≡ t
        → heard_at outside x ++ items_from (cond t begun outside) xs
        ≡ between (cond t [] (x ∷ up_to 0x16 xs)) ++ items_from begun (cond t xs (after_first 0x16 xs))
    cases true e = syn_here x xs (eqb-true x 0x16 e)
    cases false e =
        ap (λ (t : List Item). heard_at outside x ++ t) ih
        ∙ sym (append_assoc (heard_at outside x) (between (up_to 0x16 xs)) (items_from begun (after_first 0x16 xs)))
        ∙ ap (λ (t : List Item). t ++ items_from begun (after_first 0x16 xs)) (sym (between_cons x (up_to 0x16 xs)))

-- outside, the bytes up to the first 16h are CAN, NAK or ignored
pub to_syn : (xs : List ℕ) → ToSyn xs
unfolding items_from up_to after_first between
to_syn [] = refl
to_syn (x ∷ xs) = to_syn_step x xs (to_syn xs)

-- ---- up to the first 17h

-- the states of a packet's data
abbrev pub is_data : Heard → Bool
is_data outside = false
is_data (in_data p s) = true
is_data (after13h p s) = true
is_data (first_check p s) = false
is_data (second_check p s a) = false

-- a payload byte is followed by data
data_put : (p : List ℕ) (s : Bool) (b : ℕ) → is_data (put p s b) ≡ true
unfolding put
data_put p s b = cases (leb 2048 (length p))
  where
    cases : (t : Bool) → is_data (cond t (in_data p true) (in_data (p ++ (b ∷ [])) s)) ≡ true
    cases true = refl
    cases false = refl

-- data goes on as data but for 17h
pub data_next : (r : Heard) (b : ℕ) → is_data r ≡ true → eqb b 0x17 ≡ false → is_data (next r b) ≡ true
unfolding next next_data next13h
data_next outside b d e = absurd (false≢true d)
data_next (first_check p s) b d e = absurd (false≢true d)
data_next (second_check p s a) b d e = absurd (false≢true d)
data_next (in_data p s) b d e = rw e (cases (eqb b 0x16) (eqb b 0x13))
  where
    cases : (t u : Bool) → is_data (cond t begun (cond u (after13h p s) (put p s b))) ≡ true
    cases true u = refl
    cases false true = refl
    cases false false = data_put p s b
data_next (after13h p s) b d e = rw e (cases (eqb b 0x16) (eqb b 0x33) (eqb b 0x36) (eqb b 0x37))
  where
    cases : (t u v w : Bool) → is_data (cond t begun (cond u (put p s 0x13) (cond v (put p s 0x16) (cond w (put p s 0x17) (in_data p true))))) ≡ true
    cases true u v w = refl
    cases false true v w = data_put p s 0x13
    cases false false true w = data_put p s 0x16
    cases false false false true = data_put p s 0x17
    cases false false false false = refl

-- several bytes with no 17h
pub data_all : (r : Heard) (z : List ℕ) → is_data r ≡ true → has 0x17 z ≡ false → is_data (next_all r z) ≡ true
unfolding next_all has
data_all r [] d e = d
data_all r (x ∷ z) d e = data_all (next r x) z (data_next r x d (or_left (eqb x 0x17) (has 0x17 z) e)) (or_right (eqb x 0x17) (has 0x17 z) e)

-- in data nothing is complete
data_none : (r : Heard) (b : ℕ) → is_data r ≡ true → heard_at r b ≡ []
unfolding heard_at
data_none outside b d = absurd (false≢true d)
data_none (in_data p s) b d = refl
data_none (after13h p s) b d = refl
data_none (first_check p s) b d = refl
data_none (second_check p s a) b d = absurd (false≢true d)

-- data goes on to the first 17h
pub to_etb : (r : Heard) (ys : List ℕ) → is_data r ≡ true
    → items_from r ys ≡ items_from (next (next_all r (up_to 0x17 ys)) 0x17) (after_first 0x17 ys)
unfolding items_from up_to after_first next_all
to_etb r [] d = refl
to_etb r (y ∷ ys) d = cases (eqb y 0x17) refl (λ e. to_etb (next r y) ys (data_next r y d e))
  where
    cases : (t : Bool) → eqb y 0x17 ≡ t
        → (eqb y 0x17 ≡ false → items_from (next r y) ys ≡ items_from (next (next_all (next r y) (up_to 0x17 ys)) 0x17) (after_first 0x17 ys))
        → (heard_at r y ++ items_from (next r y) ys) ≡ items_from (next (next_all r (cond t [] (y ∷ up_to 0x17 ys))) 0x17) (cond t ys (after_first 0x17 ys))
    cases true e ih = rw (data_none r y d, eqb-true y 0x17 e) refl
    cases false e ih = rw (data_none r y d) (ih e)

-- ---- from the last 16h on

-- 16h begins the packet afresh
syn_next : (r : Heard) → is_data r ≡ true → next r 0x16 ≡ begun
unfolding next next_data next13h
syn_next outside d = absurd (false≢true d)
syn_next (in_data p s) d = refl
syn_next (after13h p s) d = refl
syn_next (first_check p s) d = absurd (false≢true d)
syn_next (second_check p s a) d = absurd (false≢true d)

-- a 16h among the data forgets all before the last
to_last : (r : Heard) (z : List ℕ) → is_data r ≡ true → has 0x17 z ≡ false → has 0x16 z ≡ true → next_all r z ≡ next_all begun (after_last 0x16 z)
unfolding next_all has after_last
to_last r [] d e f = absurd (false≢true f)
to_last r (x ∷ z) d e f =
    cases (has 0x16 z) (eqb x 0x16) refl refl f
    (to_last (next r x) z (data_next r x d (or_left (eqb x 0x17) (has 0x17 z) e)) (or_right (eqb x 0x17) (has 0x17 z) e))
  where
    cases : (t u : Bool) → has 0x16 z ≡ t → eqb x 0x16 ≡ u → (u || t) ≡ true
        → (has 0x16 z ≡ true → next_all (next r x) z ≡ next_all begun (after_last 0x16 z))
        → next_all (next r x) z ≡ next_all begun (cond t (after_last 0x16 z) (cond u z (x ∷ z)))
    cases true u h k g ih = ih h
    cases false true h k g ih = ap (λ (q : Heard). next_all q z) (ap (next r) (eqb-true x 0x16 k) ∙ syn_next r d)
    cases false false h k g ih = absurd (false≢true g)

-- in data, only what stands after the last 16h matters
pub from_last : (z : List ℕ) → has 0x17 z ≡ false → next_all begun z ≡ next_all begun (after_last 0x16 z)
from_last z e = cases (has 0x16 z) refl
  where
    cases : (t : Bool) → has 0x16 z ≡ t → next_all begun z ≡ next_all begun (after_last 0x16 z)
    cases true h = to_last begun z refl e h
    cases false h = ap (next_all begun) (sym (last_none z h))
