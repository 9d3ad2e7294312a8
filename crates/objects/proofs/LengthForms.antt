-- Length forms: the one form of a length, in their place, and there and back.
use mathlib.Core.Path.{◌≡◌, refl, sym}
use mathlib.Core.Bool.{Bool, true, false, cond}
use mathlib.Core.List.{List, [], ◌∷◌, ◌++◌}
use Prim.Native.Nat.{ℕ, zero, suc, ◌+◌, ◌*◌, ◌/◌, ◌%◌, ◌≤◌, ◌<◌}
use native.Mathlib.Omega.{arith}
use lib.ListN.{length, take, get_or}
use lib.Dec.{ltb, eqb}
use borrow.Author.Tests.{lt-ltb, le-ltb}
use native.Mathlib.Nat.{div-add-mod'}
use Rattle.std.proofs.Common.{Fits, w8}
use Rattle.std.specs.Prelude.{Option, Some, None}
use Rattle.objects.specs.declared.forms.Form.{Form}
use Rattle.objects.specs.LengthForm.{form, form_of, after81, after82, form_at, size_in}

-- ---- the one form of a length

pub form_one : (n : ℕ) → n < 0x80 → form_of n ≡ n ∷ []
unfolding form_of
form_one n h = simp (lt-ltb n 0x80 h)

pub form_two : (n : ℕ) → 0x80 ≤ n → n < 0x100 → form_of n ≡ 0x81 ∷ n ∷ []
unfolding form_of
form_two n h k = simp (le-ltb n 0x80 h, lt-ltb n 0x100 k)

pub form_three : (n : ℕ) → 0x80 ≤ n → 0x100 ≤ n → form_of n ≡ 0x82 ∷ n / 256 ∷ n % 256 ∷ []
unfolding form_of
form_three n h k = simp (le-ltb n 0x80 h, le-ltb n 0x100 k)

-- ---- a form in its place

-- a form by its tests: the first byte is a length; it is 81h; it is 82h
abbrev by : Bool → Bool → Bool → ℕ → Option Form → Option Form → Option Form
by s t u a f g = cond s (form 1 a) (cond t f (cond u g None))

abbrev if81 : Bool → ℕ → Option Form
if81 v b = cond v None (form 2 b)

abbrev if82 : Bool → ℕ → Option Form
if82 v n = cond v None (form 3 n)

by_le : (m : ℕ) (s t u : Bool) (a : ℕ) (f g : Option Form) → 1 ≤ m → size_in f ≤ m → size_in g ≤ m → size_in (by s t u a f g) ≤ m
by_le m true t u a f g h k l = h
by_le m false true u a f g h k l = k
by_le m false false true a f g h k l = l
by_le m false false false a f g h k l = omega arith

if81_le : (m : ℕ) (v : Bool) (b : ℕ) → 2 ≤ m → size_in (if81 v b) ≤ m
if81_le m true b h = omega arith
if81_le m false b h = h

if82_le : (m : ℕ) (v : Bool) (b : ℕ) → 3 ≤ m → size_in (if82 v b) ≤ m
if82_le m true b h = omega arith
if82_le m false b h = h

after81_le : (xs : List ℕ) → size_in (after81 xs) ≤ suc (length xs)
unfolding after81
after81_le [] = omega arith
after81_le (b ∷ xs) = if81_le (suc (suc (length xs))) (ltb b 0x80) b (omega arith)

after82_le : (xs : List ℕ) → size_in (after82 xs) ≤ suc (length xs)
unfolding after82
after82_le [] = omega arith
after82_le (b ∷ []) = omega arith
after82_le (b ∷ c ∷ xs) = if82_le (suc (suc (suc (length xs)))) (ltb (b * 256 + c) 0x100) (b * 256 + c) (omega arith)

pub form_le : (xs : List ℕ) → size_in (form_at xs) ≤ length xs
unfolding form_at
form_le [] = omega arith
form_le (a ∷ xs) =
    by_le (suc (length xs)) (ltb a 0x80) (eqb a 0x81) (eqb a 0x82) a (after81 xs) (after82 xs) (omega arith) (after81_le xs) (after82_le xs)

-- a form has a byte
abbrev HasByte : Option Form → Type 0
HasByte None = Unit {0}
HasByte (Some f) = 1 ≤ f.size

by_bytes : (s t u : Bool) (a : ℕ) (f g : Option Form) → HasByte f → HasByte g → HasByte (by s t u a f g)
by_bytes true t u a f g h k = omega arith
by_bytes false true u a f g h k = h
by_bytes false false true a f g h k = k
by_bytes false false false a f g h k = tt

after81_bytes : (xs : List ℕ) → HasByte (after81 xs)
unfolding after81
after81_bytes [] = tt
after81_bytes (b ∷ xs) = cases (ltb b 0x80)
  where
    cases : (v : Bool) → HasByte (if81 v b)
    cases true = tt
    cases false = omega arith

after82_bytes : (xs : List ℕ) → HasByte (after82 xs)
unfolding after82
after82_bytes [] = tt
after82_bytes (b ∷ []) = tt
after82_bytes (b ∷ c ∷ xs) = cases (ltb (b * 256 + c) 0x100)
  where
    cases : (v : Bool) → HasByte (if82 v (b * 256 + c))
    cases true = tt
    cases false = omega arith

no_bytes : (o : Option Form) → HasByte o → size_in o ≤ 0 → o ≡ None
no_bytes None b h = refl
no_bytes (Some f) b h = absurd (let k : 1 ≤ f.size = b in omega arith)

-- what stands after a form does not change it
by_append : (s t u : Bool) (a : ℕ) (f f' g g' : Option Form) → ((f ≡ None → ⊥) → f' ≡ f) → ((g ≡ None → ⊥) → g' ≡ g)
    → (by s t u a f g ≡ None → ⊥) → by s t u a f' g' ≡ by s t u a f g
by_append true t u a f f' g g' h k n = refl
by_append false true u a f f' g g' h k n = h n
by_append false false true a f f' g g' h k n = k n
by_append false false false a f f' g g' h k n = refl

after81_append : (xs ys : List ℕ) → (after81 xs ≡ None → ⊥) → after81 (xs ++ ys) ≡ after81 xs
unfolding after81
after81_append [] ys h = absurd (h refl)
after81_append (b ∷ xs) ys h = refl

after82_append : (xs ys : List ℕ) → (after82 xs ≡ None → ⊥) → after82 (xs ++ ys) ≡ after82 xs
unfolding after82
after82_append [] ys h = absurd (h refl)
after82_append (b ∷ []) ys h = absurd (h refl)
after82_append (b ∷ c ∷ xs) ys h = refl

pub form_append : (xs ys : List ℕ) → (form_at xs ≡ None → ⊥) → form_at (xs ++ ys) ≡ form_at xs
unfolding form_at
form_append [] ys h = absurd (h refl)
form_append (a ∷ xs) ys h =
    by_append (ltb a 0x80) (eqb a 0x81) (eqb a 0x82) a (after81 xs) (after81 (xs ++ ys)) (after82 xs) (after82 (xs ++ ys))
    (after81_append xs ys) (after82_append xs ys) h

-- nor does it need what stands after it
by_take : (n : ℕ) (s t u : Bool) (a : ℕ) (f f' g g' : Option Form) → (size_in f ≤ n → f' ≡ f) → (size_in g ≤ n → g' ≡ g)
    → size_in (by s t u a f g) ≤ n → by s t u a f' g' ≡ by s t u a f g
by_take n true t u a f f' g g' h k l = refl
by_take n false true u a f f' g g' h k l = h l
by_take n false false true a f f' g g' h k l = k l
by_take n false false false a f f' g g' h k l = refl

after81_take : (xs : List ℕ) (n : ℕ) → size_in (after81 xs) ≤ suc n → after81 (take n xs) ≡ after81 xs
unfolding after81
after81_take [] zero h = refl
after81_take [] (suc n) h = refl
after81_take (b ∷ xs) zero h = none (ltb b 0x80) h
  where
    none : (v : Bool) → size_in (if81 v b) ≤ 1 → None ≡ if81 v b
    none true k = refl
    none false k = absurd (let z : 2 ≤ 1 = k in omega arith)
after81_take (b ∷ xs) (suc n) h = refl

after82_take : (xs : List ℕ) (n : ℕ) → size_in (after82 xs) ≤ suc n → after82 (take n xs) ≡ after82 xs
unfolding after82
after82_take [] zero h = refl
after82_take [] (suc n) h = refl
after82_take (b ∷ []) zero h = refl
after82_take (b ∷ []) (suc zero) h = refl
after82_take (b ∷ []) (suc (suc n)) h = refl
after82_take (b ∷ c ∷ xs) zero h = none (ltb (b * 256 + c) 0x100) h
  where
    none : (v : Bool) → size_in (if82 v (b * 256 + c)) ≤ 1 → None ≡ if82 v (b * 256 + c)
    none true k = refl
    none false k = absurd (let z : 3 ≤ 1 = k in omega arith)
after82_take (b ∷ c ∷ xs) (suc zero) h = none (ltb (b * 256 + c) 0x100) h
  where
    none : (v : Bool) → size_in (if82 v (b * 256 + c)) ≤ 2 → None ≡ if82 v (b * 256 + c)
    none true k = refl
    none false k = absurd (let z : 3 ≤ 2 = k in omega arith)
after82_take (b ∷ c ∷ xs) (suc (suc n)) h = refl

pub form_take : (xs : List ℕ) (n : ℕ) → (form_at xs ≡ None → ⊥) → size_in (form_at xs) ≤ n → form_at (take n xs) ≡ form_at xs
unfolding form_at
form_take [] zero p h = refl
form_take [] (suc n) p h = refl
form_take (a ∷ xs) zero p h =
    absurd (p (no_bytes (by (ltb a 0x80) (eqb a 0x81) (eqb a 0x82) a (after81 xs) (after82 xs)) (by_bytes (ltb a 0x80) (eqb a 0x81) (eqb a 0x82) a (after81 xs) (after82 xs) (after81_bytes xs) (after82_bytes xs)) h))
form_take (a ∷ xs) (suc n) p h =
    by_take (suc n) (ltb a 0x80) (eqb a 0x81) (eqb a 0x82) a (after81 xs) (after81 (take n xs)) (after82 xs) (after82 (take n xs))
    (after81_take xs n) (after82_take xs n) h

-- ---- there and back

pub form_read : (n : ℕ) (ys : List ℕ) → form_at (form_of n ++ ys) ≡ form (length (form_of n)) n
unfolding form_at form_of after81 after82
form_read n ys = first (ltb n 0x80) refl
  where
    long : (t : Bool) → ltb n 0x80 ≡ false → ltb n 0x100 ≡ t → form_at (form_of n ++ ys) ≡ form (length (form_of n)) n
    long true e d = simp (e, d)
    long false e d = let m : n / 256 * 256 + n % 256 ≡ n = div-add-mod' n 256 in simp (e, d, m)

    first : (s : Bool) → ltb n 0x80 ≡ s → form_at (form_of n ++ ys) ≡ form (length (form_of n)) n
    first true e = simp e
    first false e = long (ltb n 0x100) e refl

pub form_some : (n : ℕ) → length (form_of n) ≡ 0 → ⊥
unfolding form_of
form_some n = cases (ltb n 0x80) (ltb n 0x100)
  where
    cases : (s t : Bool) → length (cond s (n ∷ []) (cond t (0x81 ∷ n ∷ []) (0x82 ∷ n / 256 ∷ n % 256 ∷ []))) ≡ 0 → ⊥
    cases true t z = omega arith
    cases false true z = omega arith
    cases false false z = omega arith

-- ---- a step of the code: 82h and a high byte of 0 start no form

pub no_high : (p : List ℕ) → ((i : ℕ) → Fits w8 (get_or p i 0)) → 3 ≤ length p → get_or p 0 0 ≡ 0x82 → get_or p 1 0 ≡ 0 → None ≡ form_at p
unfolding form_at after82
no_high [] known h a b = absurd (omega arith)
no_high (x ∷ []) known h a b = absurd (omega arith)
no_high (x ∷ y ∷ []) known h a b = absurd (omega arith)
no_high (x ∷ y ∷ z ∷ xs) known h a b =
    let f : Fits w8 z = known 2 in
    let k : z < 256 = omega (arith, f) in
    let l = lt-ltb (y * 256 + z) 0x100 (omega arith) in
    sym (simp (a, l))
