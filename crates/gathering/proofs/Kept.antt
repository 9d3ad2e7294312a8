-- What gathering keeps, and what a turn of its loop leaves.
use mathlib.Core.Path.{◌≡◌, refl, sym, ap, ◌∙◌}
use mathlib.Core.Bool.{Bool, true, false, cond, false≢true}
use mathlib.Core.List.{List, [], ◌∷◌}
use Prim.Native.Nat.{ℕ, zero, suc, ◌+◌, ◌≤◌, ◌<◌}
use native.Mathlib.Omega.{arith}
use native.Mathlib.Numerals.{add-one}
use lib.ListN.{length, drop, get_or, set, length-set, drop_of_length-le}
use lib.Seq.{drop-cons}
use Rattle.reception.specs.declared.Line.{Line}
use Rattle.reception.specs.declared.Told.{Told}
use Rattle.reception.specs.declared.Told.TheVariants.{Nothing, Payload, Complete}
use Rattle.reception.specs.Reception.{taken}
use Rattle.reception.proofs.Promises.{taken_within}
use Rattle.std.specs.Prelude.{Some, None}
use Rattle.gathering.specs.Gathering.{asks_in, placed_in, Got, got_as, gathered, asked_of, Gathers}

-- what was gathered, as it is told
pub gathers : (g : Got) (line : Line) (store : List ℕ) (n : ℕ) (t : Bool) (b : ℕ) → g ≡ got_as line store n t b
    → Gathers g (record { line = line; taken = n; asked = cond t (Some b) None }) store
gathers g line store n t b e = record {
  is = λ i. record { line = (sym e i).line; taken = (sym e i).taken; asked = asked_of (sym e i) };
  store_is = λ i. (sym e i).store;
}

-- a byte that is placed keeps the store's length
pub placed_long : (store : List ℕ) (t : Told) → length (placed_in store t) ≡ length store
placed_long store Nothing = refl
placed_long store (Payload at b) = length-set store at b
placed_long store (Complete a b) = refl

-- a byte past the end of a list is not set
pub set_past : (l : List ℕ) (i b : ℕ) → length l ≤ i → set l i b ≡ l
set_past [] i b h = refl
set_past (x ∷ l) zero b h = absurd (omega arith)
set_past (x ∷ l) (suc i) b h = ap (λ (k : List ℕ). x ∷ k) (set_past l i b (omega arith))

-- ---- what gathering keeps

module _ (resend : Bool) where
  -- at most 2,048 payload bytes are placed
  abbrev Within : List ℕ → Type 0
  Within piece = (line : Line) (store : List ℕ) (n : ℕ) → line.count ≤ 2048 → (gathered resend line store n piece).line.count ≤ 2048

  within_none : Within []
  unfolding gathered
  within_none line store n h = h

  within_more : (b : ℕ) (bs : List ℕ) → Within bs → Within (b ∷ bs)
  unfolding gathered
  within_more b bs ih line store n h = cases (asks_in line.state resend b)
    where
      cases : (t : Bool)
          → (cond t (got_as line store (n + 1) true b) (gathered resend (taken line b).line (placed_in store (taken line b).told) (n + 1) bs)).line.count ≤ 2048
      cases true = h
      cases false = ih (taken line b).line (placed_in store (taken line b).told) (n + 1) (taken_within line b h)

  within : (piece : List ℕ) → Within piece
  within [] = within_none
  within (b ∷ bs) = within_more b bs (within bs)

  -- the store keeps its length
  abbrev Long : List ℕ → Type 0
  Long piece = (line : Line) (store : List ℕ) (n : ℕ) → length (gathered resend line store n piece).store ≡ length store

  long_none : Long []
  unfolding gathered
  long_none line store n = refl

  long_more : (b : ℕ) (bs : List ℕ) → Long bs → Long (b ∷ bs)
  unfolding gathered
  long_more b bs ih line store n = cases (asks_in line.state resend b)
    where
      cases : (t : Bool)
          → length (cond t (got_as line store (n + 1) true b) (gathered resend (taken line b).line (placed_in store (taken line b).told) (n + 1) bs)).store
          ≡ length store
      cases true = refl
      cases false = ih (taken line b).line (placed_in store (taken line b).told) (n + 1) ∙ placed_long store (taken line b).told

  long : (piece : List ℕ) → Long piece
  long [] = long_none
  long (b ∷ bs) = long_more b bs (long bs)

  -- the byte at which it ends is one that is answered there
  abbrev Asks : Got → Type 0
  Asks g = g.asked ≡ true → asks_in g.line.state resend g.last ≡ true

  abbrev AsksAll : List ℕ → Type 0
  AsksAll piece = (line : Line) (store : List ℕ) (n : ℕ) → Asks (gathered resend line store n piece)

  asks_none : AsksAll []
  unfolding gathered
  asks_none line store n e = absurd (false≢true e)

  asks_more : (b : ℕ) (bs : List ℕ) → AsksAll bs → AsksAll (b ∷ bs)
  unfolding gathered
  asks_more b bs ih line store n = cases (asks_in line.state resend b) refl
    where
      cases : (t : Bool) → asks_in line.state resend b ≡ t
          → Asks (cond t (got_as line store (n + 1) true b) (gathered resend (taken line b).line (placed_in store (taken line b).told) (n + 1) bs))
      cases true e = λ f. e
      cases false e = ih (taken line b).line (placed_in store (taken line b).told) (n + 1)

  asks : (piece : List ℕ) → AsksAll piece
  asks [] = asks_none
  asks (b ∷ bs) = asks_more b bs (asks bs)

module _ (resend : Bool) (line : Line) (store : List ℕ) (n : ℕ) (piece : List ℕ) where
  -- a count within 2,048 stays so
  pub gathered_within : line.count ≤ 2048 → (gathered resend line store n piece).line.count ≤ 2048
  gathered_within h = within resend piece line store n h

  -- the store keeps its length
  pub gathered_long : length (gathered resend line store n piece).store ≡ length store
  gathered_long = long resend piece line store n

  -- the byte that gathering ends with is one that is answered
  pub gathered_asks : (gathered resend line store n piece).asked ≡ true
      → asks_in (gathered resend line store n piece).line.state resend (gathered resend line store n piece).last ≡ true
  gathered_asks e = asks resend piece line store n e

-- ---- one turn of a loop over a piece

module _ (resend : Bool) (line : Line) (store : List ℕ) (i : ℕ) (piece : List ℕ) where
  -- a byte that is answered ends it
  pub gather_last : i < length piece → asks_in line.state resend (get_or piece i 0) ≡ true
      → gathered resend line store i (drop i piece) ≡ got_as line store (i + 1) true (get_or piece i 0)
  unfolding gathered
  gather_last h e = simp (drop-cons piece i 0 h, e)

  -- any other is reception's, and it goes on
  pub gather_more : i < length piece → asks_in line.state resend (get_or piece i 0) ≡ false
      → gathered resend line store i (drop i piece)
      ≡ gathered resend (taken line (get_or piece i 0)).line (placed_in store (taken line (get_or piece i 0)).told) (i + 1) (drop (i + 1) piece)
  unfolding gathered
  gather_more h e = simp (drop-cons piece i 0 h, e, add-one)

  -- at the end nothing is answered
  pub gather_none : length piece ≤ i → gathered resend line store i (drop i piece) ≡ got_as line store i false 0
  unfolding gathered
  gather_none h = simp (drop_of_length-le piece h)
