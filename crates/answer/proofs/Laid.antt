-- The laws of bytes laid over a list.
use mathlib.Core.Path.{◌≡◌, refl, sym, ap, ◌∙◌}
use mathlib.Core.List.{List, [], ◌∷◌, ◌++◌, append_assoc, append-nil}
use Prim.Native.Nat.{ℕ, suc, ◌+◌, ◌≤◌, ◌<◌}
use native.Mathlib.Omega.{arith}
use native.Mathlib.Nat.{zero-add, add-zero}
use native.Mathlib.Numerals.{add-one}
use lib.ListN.{length, take, length-drop, get_or, set, length-append, take-append-drop}
use lib.Seq.{length-take-le, take-append_seam, drop-append-add, drop-drop, sets-eq, paste, paste-suc}
use Rattle.answer.specs.Answers.{over}
use borrow.Author.Tests.{le-leb}
use Rattle.answer.specs.Laid.{pasted, Puts, PutIf}

pub pasted_start : (s l : List ℕ) → pasted l 0 s ≡ over s l
pasted_start s l = simp zero-add

pub over_more : (s t l : List ℕ) → pasted (over s l) (length s) t ≡ over (s ++ t) l
over_more s t l = simp (take-append_seam, drop-append-add, drop-drop, length-append)

pub over_first : (x : ℕ) (l : List ℕ) → 0 < length l → set l 0 x ≡ over (x ∷ []) (set l 0 x)
over_first x [] h = absurd (omega arith)
over_first x (a ∷ l) h = refl

pub set_three : (l : List ℕ) (at a b c : ℕ) → at + 3 ≤ length l → set (set (set l at a) (at + 1) b) (at + 2) c ≡ pasted l at (a ∷ b ∷ c ∷ [])
set_three l at a b c h =
    let e : at + 2 ≡ suc (suc at) = omega arith in
    simp (add-one, e) (sets-eq (a ∷ b ∷ c ∷ []) l at h)

pub set_one : (l : List ℕ) (at a : ℕ) → at + 1 ≤ length l → set l at a ≡ pasted l at (a ∷ [])
set_one l at a h = sets-eq (a ∷ []) l at h

pub over_long : (s l : List ℕ) → length s ≤ length l → length (over s l) ≡ length l
over_long s l h = simp (length-append, length-drop) (omega arith)

-- ---- bytes that are put where they fit

-- what a caller knows who saw to the room
pub put_fits : (out : List ℕ) (at : ℕ) (s : List ℕ) (r : ℕ) (out' : List ℕ) → at + length s ≤ length out → PutIf out at s r out' → Puts out at s r out'
put_fits out at s r out' h p = record { bytes = p.bytes ∙ simp (le-leb (at + length s) (length out) h); next = p.next ∙ simp (le-leb (at + length s) (length out) h) }

pub pasted_length : (l : List ℕ) (at : ℕ) (s : List ℕ) → at + length s ≤ length l → length (pasted l at s) ≡ length l
pasted_length l at s h = simp (length-append, length-drop, length-take-le at l (omega arith)) (omega arith)

-- ---- bytes put next to one another

pub pasted_over : (l : List ℕ) (at : ℕ) (s : List ℕ) → at ≤ length l → pasted l at s ≡ over (take at l ++ s) l
pasted_over l at s h = simp (length-append, length-take-le at l h)

-- what is put next to one another is put at once
pub pasted_join : (l : List ℕ) (at : ℕ) (a b : List ℕ) → at ≤ length l → pasted (pasted l at a) (at + length a) b ≡ pasted l at (a ++ b)
pasted_join l at a b h =
    let n : at + length a ≡ length (take at l ++ a) = simp (length-append, length-take-le at l h) in
    ap (λ (x : List ℕ). pasted x (at + length a) b) (pasted_over l at a h)
    ∙ ap (λ (k : ℕ). pasted (over (take at l ++ a) l) k b) n
    ∙ over_more (take at l ++ a) b l
    ∙ ap (λ (x : List ℕ). over x l) (append_assoc (take at l) a b)
    ∙ sym (pasted_over l at (a ++ b) h)

-- nothing is put
pub pasted_none : (l : List ℕ) (at : ℕ) → pasted l at [] ≡ l
pasted_none l at = simp (append-nil, add-zero, take-append-drop)

pub puts_long : (l s : List ℕ) (at r : ℕ) (out : List ℕ) → at + length s ≤ length l → Puts l at s r out → length out ≡ length l
puts_long l s at r out h u = ap length u.bytes ∙ pasted_length l at s h

-- a byte more of s stands at its place
pub put_turn : (l o : List ℕ) (at i : ℕ) (s : List ℕ) → o ≡ paste l at s i → at + length s ≤ length l → i < length s → set o (at + i) (get_or s i 0) ≡ paste l at s (i + 1)
put_turn l o at i s e h k = ap (λ (x : List ℕ). set x (at + i) (get_or s i 0)) e ∙ paste-suc l at s i 0 (omega arith) k ∙ ap (paste l at s) (sym (add-one i))
