-- The laws of a register that is fed with bits.
use mathlib.Core.Path.{◌≡◌, refl, sym, ap, ap₂, ◌∙◌}
use mathlib.Core.Bool.{Bool, true, false}
use mathlib.Core.List.{List, [], ◌∷◌, ◌++◌, append_cancel_right}
use Prim.Native.Nat.{ℕ, zero, suc, ◌+◌, ◌≤◌}
use native.Mathlib.Nat.{zero-add, suc-add}
use native.Mathlib.Omega.{arith}
use lib.ListN.{length, get_or, replicate, length-append, replicate-append-replicate}
use lib.Seq.{get_or_at}
use Rattle.crc16.specs.Crc.{xor, ◌⊕◌, zeros, generator, divide, remainder}
use Rattle.crc16.specs.Register.{fed}
use Rattle.crc16.proofs.Sums.{xor_false, sum_comm, sum_assoc, sum_swap, sum_length, sum_zeros, sum_pad}
use Rattle.crc16.proofs.Division.{low, steps, sum_twice}

-- a message and its sixteen zeros
tail_length : (m : List Bool) → length (m ++ zeros 16) ≡ length m + 16
unfolding zeros
tail_length m = length-append m (replicate 16 false)

-- what a register adds to a message and its zeros leaves the length
front_length : (r m : List Bool) → length r ≤ 16 → length (r ⊕ (m ++ zeros 16)) ≡ length m + 16
front_length r m h =
    ap length (sum_comm r (m ++ zeros 16)) ∙ sum_length (m ++ zeros 16) r (omega (arith, tail_length m)) ∙ tail_length m

-- the register t, shifted, once the bit that left it and the message's bit differ or not
abbrev pub shift : Bool → List Bool → List Bool
shift false t = t ++ (false ∷ [])
shift true t = (t ++ (false ∷ [])) ⊕ low

pub shift_length : (b : Bool) (t : List Bool) → length t ≡ 15 → length (shift b t) ≡ 16
unfolding generator zeros
shift_length false t h = length-append t (false ∷ []) ∙ omega (arith, h)
shift_length true t h =
    let e : length (t ++ (false ∷ [])) ≡ 16 = length-append t (false ∷ []) ∙ omega (arith, h) in
    sum_length (t ++ (false ∷ [])) low (omega arith) ∙ e

-- the register r, of sixteen bits at most, and the message m take as many steps as m has bits
fed_steps : (r m : List Bool) → length r ≤ 16 → fed r m ≡ divide (length m) (r ⊕ (m ++ zeros 16))
unfolding fed
fed_steps r m h = steps (length m) (r ⊕ (m ++ zeros 16)) (front_length r m h)

-- no bits leave the register as it is
pub fed_nil : (r : List Bool) → length r ≡ 16 → fed r [] ≡ r
unfolding fed divide
fed_nil r h = ap remainder (sum_zeros r 16 (omega arith)) ∙ steps 0 r h

-- one step of the division, at a leading coefficient d
step : (d : Bool) (t m : List Bool) → length t ≡ 15 → divide (suc (length m)) (d ∷ (t ⊕ (m ++ zeros 16))) ≡ fed (shift d t) m
unfolding divide generator ◌⊕◌
step false t m h =
    ap (divide (length m)) (sym (sum_pad t (m ++ zeros 16) (omega (arith, tail_length m))))
    ∙ sym (fed_steps (shift false t) m (omega (arith, shift_length false t h)))
step true t m h =
    ap (divide (length m))
    (ap (λ (l : List Bool). l ⊕ low) (sym (sum_pad t (m ++ zeros 16) (omega (arith, tail_length m))))
    ∙ sum_swap (t ++ (false ∷ [])) (m ++ zeros 16) low)
    ∙ sym (fed_steps (shift true t) m (omega (arith, shift_length true t h)))

-- one bit of the message: the register is shifted by the sum of its highest bit and that bit
pub fed_cons : (a : Bool) (t : List Bool) (b : Bool) (m : List Bool) → length t ≡ 15 → fed (a ∷ t) (b ∷ m) ≡ fed (shift (xor a b) t) m
unfolding ◌⊕◌
fed_cons a t b m h = fed_steps (a ∷ t) (b ∷ m) (omega arith) ∙ step (xor a b) t m h

-- bits after bits
pub fed_append : (m k r : List Bool) → length r ≡ 16 → fed r (m ++ k) ≡ fed (fed r m) k
fed_append [] k r h = ap (λ (l : List Bool). fed l k) (sym (fed_nil r h))
fed_append (b ∷ m) k [] h = absurd (omega arith)
fed_append (b ∷ m) k (a ∷ t) h =
    let e : length t ≡ 15 = omega arith in
    fed_cons a t b (m ++ k) e
    ∙ fed_append m k (shift (xor a b) t) (shift_length (xor a b) t e)
    ∙ ap (λ (l : List Bool). fed l k) (sym (fed_cons a t b m e))

pub fed_length : (m r : List Bool) → length r ≡ 16 → length (fed r m) ≡ 16
fed_length [] r h = ap length (fed_nil r h) ∙ h
fed_length (b ∷ m) [] h = absurd (omega arith)
fed_length (b ∷ m) (a ∷ t) h =
    let e : length t ≡ 15 = omega arith in
    ap length (fed_cons a t b m e) ∙ fed_length m (shift (xor a b) t) (shift_length (xor a b) t e)

-- a register that is 0 adds nothing
pub fed_zeros : (m : List Bool) → fed (zeros 16) m ≡ remainder (m ++ zeros 16)
unfolding fed
fed_zeros m = ap remainder (sum_comm (zeros 16) (m ++ zeros 16) ∙ sum_zeros (m ++ zeros 16) 16 (omega (arith, tail_length m)))

-- ---- one step of the register loses nothing

get_d_sum : (p q : List Bool) (i : ℕ) → get_or (p ⊕ q) i false ≡ xor (get_or p i false) (get_or q i false)
unfolding ◌⊕◌
get_d_sum [] q i = refl
get_d_sum (a ∷ p) [] zero = sym (xor_false a)
get_d_sum (a ∷ p) [] (suc i) = sym (xor_false (get_or p i false))
get_d_sum (a ∷ p) (b ∷ q) zero = refl
get_d_sum (a ∷ p) (b ∷ q) (suc i) = get_d_sum p q i

-- the lowest bit tells whether the generator was subtracted
shift_last : (d : Bool) (t : List Bool) → length t ≡ 15 → get_or (shift d t) 15 false ≡ d
unfolding generator zeros
shift_last false t h = get_or_at t false [] false 15 h
shift_last true t h = get_d_sum (t ++ (false ∷ [])) low 15 ∙ ap (λ (b : Bool). xor b true) (get_or_at t false [] false 15 h)

shift_inj : (d : Bool) (t u : List Bool) → length t ≡ 15 → length u ≡ 15 → shift d t ≡ shift d u → t ≡ u
shift_inj false t u ht hu e = append_cancel_right t u (false ∷ []) e
shift_inj true t u ht hu e =
    let f : length (t ++ (false ∷ [])) ≡ 16 = shift_length false t ht in
    let g : length (u ++ (false ∷ [])) ≡ 16 = shift_length false u hu in
    append_cancel_right t u (false ∷ [])
    (sym (sum_twice (t ++ (false ∷ [])) (omega arith)) ∙ ap (λ (l : List Bool). l ⊕ low) e ∙ sum_twice (u ++ (false ∷ [])) (omega arith))

xor_back : (a b : Bool) → xor (xor a b) b ≡ a
xor_back false false = refl
xor_back false true = refl
xor_back true false = refl
xor_back true true = refl

-- INJECTIVITY: registers that the same bits make equal were equal before them
pub fed_inj : (m r s : List Bool) → length r ≡ 16 → length s ≡ 16 → fed r m ≡ fed s m → r ≡ s
fed_inj [] r s hr hs e = sym (fed_nil r hr) ∙ e ∙ fed_nil s hs
fed_inj (b ∷ m) [] s hr hs e = absurd (omega arith)
fed_inj (b ∷ m) (x ∷ t) [] hr hs e = absurd (omega arith)
fed_inj (b ∷ m) (x ∷ t) (y ∷ u) hr hs e =
    let ht : length t ≡ 15 = omega arith in
    let hu : length u ≡ 15 = omega arith in
    let i : shift (xor x b) t ≡ shift (xor y b) u =
    fed_inj m (shift (xor x b) t) (shift (xor y b) u) (shift_length (xor x b) t ht) (shift_length (xor y b) u hu)
    (sym (fed_cons x t b m ht) ∙ e ∙ fed_cons y u b m hu) in
    let j : xor x b ≡ xor y b = sym (shift_last (xor x b) t ht) ∙ ap (λ (l : List Bool). get_or l 15 false) i ∙ shift_last (xor y b) u hu in
    ap₂ ◌∷◌ (sym (xor_back x b) ∙ ap (λ (d : Bool). xor d b) j ∙ xor_back y b)
    (shift_inj (xor y b) t u ht hu (ap (λ (d : Bool). shift d t) (sym j) ∙ i))

-- ---- sixteen bits or fewer are taken into the register at once

pub spread : (m : List Bool) (j : ℕ) → m ⊕ zeros (length m + j) ≡ m ++ zeros j
unfolding ◌⊕◌ zeros
spread [] j = ap zeros (zero-add j)
spread (a ∷ m) j = ap (λ (k : ℕ). (a ∷ m) ⊕ zeros k) (suc-add (length m) j) ∙ ap₂ ◌∷◌ (xor_false a) (spread m j)

pub at_once : (r m : List Bool) → fed r m ≡ fed (r ⊕ m) (zeros (length m))
unfolding fed zeros
at_once r m =
    ap remainder
    (ap (λ (l : List Bool). r ⊕ l) (sym (spread m 16)) ∙ sym (sum_assoc r m (zeros (length m + 16)))
    ∙ ap (λ (l : List Bool). r ⊕ m ⊕ l) (sym (replicate-append-replicate (length m) 16 false)))
