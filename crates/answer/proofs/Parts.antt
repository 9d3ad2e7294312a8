-- Parts of a list as the code lends them, joined lists, and tests that hold together.
use mathlib.Core.Path.{◌≡◌, refl, sym, ap, ◌∙◌}
use mathlib.Core.Bool.{Bool, true, false, ◌&&◌, ◌||◌, false≢true, true≢false}
use mathlib.Core.List.{List, [], ◌∷◌, ◌++◌, append_assoc, flatten}
use Prim.Native.Nat.{ℕ, zero, suc, ◌+◌, ◌-◌}
use native.Mathlib.Omega.{arith}
use native.Mathlib.Nat.{sub-zero, suc-sub-suc}
use lib.ListN.{length, take, drop, length-drop}
use lib.Seq.{drop-drop, take_all, take-nil}
use Rattle.answer.specs.Pieces.{every}
use Rattle.answer.specs.Claims.{AllPieces}

pub and_left : (a b : Bool) → (a && b) ≡ true → a ≡ true
and_left true b e = refl
and_left false b e = e

pub and_right : (a b : Bool) → (a && b) ≡ true → b ≡ true
and_right true b e = e
and_right false b e = absurd (false≢true e)

pub and_true : (a : Bool) → (a && true) ≡ a
and_true true = refl
and_true false = refl

pub and_false : (a : Bool) → (a && false) ≡ false
and_false true = refl
and_false false = refl

pub and_join : (a b c : Bool) → (a && (b && c)) ≡ ((a && b) && c)
and_join true b c = refl
and_join false b c = refl

pub or_left : (a b : Bool) → (a || b) ≡ false → a ≡ false
or_left true b e = e
or_left false b e = refl

pub or_right : (a b : Bool) → (a || b) ≡ false → b ≡ false
or_right true b e = absurd (true≢false e)
or_right false b e = e

-- ---- parts

-- what `&s[at..]` hands over
pub rest_part : (s : List ℕ) (at : ℕ) → take (length s - at) (drop at s) ≡ drop at s
rest_part s at = take_all (length s - at) (drop at s) (simp length-drop (omega arith))

-- what `&s[a..e]` hands over, as the part of `take e s` from a on
pub drop_take : (s : List ℕ) (a e : ℕ) → take (e - a) (drop a s) ≡ drop a (take e s)
drop_take s zero e = ap (λ (n : ℕ). take n s) (sub-zero e)
drop_take [] (suc a) zero = take-nil (0 - suc a)
drop_take [] (suc a) (suc e) = take-nil (suc e - suc a)
drop_take (x ∷ s) (suc a) zero = ap (λ (n : ℕ). take n (drop a s)) (let h : 0 - suc a ≡ 0 = omega arith in h)
drop_take (x ∷ s) (suc a) (suc e) = ap (λ (n : ℕ). take n (drop a s)) (suc-sub-suc e a) ∙ drop_take s a e

-- what `&s[at + k..at + n]` hands over: what stands past the first k bytes of a piece of n
pub inner_part : (s : List ℕ) (at k n : ℕ) → take (at + n - (at + k)) (drop (at + k) s) ≡ drop k (take n (drop at s))
inner_part s at k n =
    let e : at + n - (at + k) ≡ n - k = omega arith in
    rw (e, ← drop-drop k at s) (drop_take (drop at s) k n)

-- ---- joined lists

pub flatten_append : (a b : List (List ℕ)) → flatten (a ++ b) ≡ flatten a ++ flatten b
unfolding flatten
flatten_append [] b = refl
flatten_append (s ∷ a) b = ap (λ (l : List ℕ). s ++ l) (flatten_append a b) ∙ sym (append_assoc s (flatten a) (flatten b))

pub every_append : (test : List ℕ → Bool) (a b : List (List ℕ)) → every test a ≡ true → every test b ≡ true → every test (a ++ b) ≡ true
unfolding every
every_append test [] b h k = k
every_append test (s ∷ a) b h k = rw (and_left (test s) (every test a) h) (every_append test a b (and_right (test s) (every test a) h) k)

pub all_join : (size : List ℕ → ℕ) (a b : List (List ℕ)) → AllPieces size a → AllPieces size b → AllPieces size (a ++ b)
all_join size [] b h k = k
all_join size (s ∷ a) b h k = (h.0, h.1, all_join size a b h.2 k)
