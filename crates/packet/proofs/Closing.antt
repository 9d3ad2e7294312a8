-- The laws of the first ETB and of what stands after it.
use Rattle.std.proofs.Common.{◌≡◌, refl, ap, subst, ◌∙◌, ℕ, suc, ◌+◌, Bool, true, false, cond, not, List, [], ◌∷◌, length, take, drop, arith, add-one}
use lib.Dec.{eqb}
use lib.ListN.{get_or, drop_of_length-le}
use lib.Seq.{drop-drop}
use Rattle.std.specs.Prelude.{Option, Some, None, Err}
use Rattle.std.specs.List.{position_or_len}
use Rattle.std.proofs.lemmas.Bool.{false_from_ne_true}
use Rattle.std.proofs.lemmas.List.Sums.{position_or_len_is}
use Rattle.memchr.specs.Find.{IsFirstByte, is_byte}
use Rattle.answer.specs.declared.refusal.Refusal.TheVariants.{NoPacket}
use Rattle.packet.specs.Substitution.{unstuff}
use Rattle.packet.specs.Packet.{before, closed, judged, rest_of}

before_is : (xs : List ℕ) → before 0x17 xs ≡ position_or_len (λ b. eqb b 0x17) xs
unfolding before
before_is [] = refl
before_is (x ∷ xs) = cases (eqb x 0x17) (before_is xs)
  where
    cases : (t : Bool) → before 0x17 xs ≡ position_or_len (λ b. eqb b 0x17) xs → cond t 0 (suc (before 0x17 xs)) ≡ cond (not t) (1 + position_or_len (λ b. eqb b 0x17) xs) 0
    cases true h = refl
    cases false h = omega (arith, h)

-- the first ETB, as `memchr` finds it
pub etb_some : (xs : List ℕ) (n : ℕ) → IsFirstByte (is_byte 0x17) xs (Some n) → before 0x17 xs ≡ n
etb_some xs n h =
    before_is xs ∙ position_or_len_is (λ b. eqb b 0x17) xs n 0 (omega (arith, h.0.high)) (λ k l. false_from_ne_true _ (h.0.before k (omega arith) l)) (λ l. h.1)

pub etb_none : (xs : List ℕ) → IsFirstByte (is_byte 0x17) xs None → before 0x17 xs ≡ length xs
etb_none xs h =
    before_is xs
    ∙ position_or_len_is (λ b. eqb b 0x17) xs (length xs) 0 (omega arith) (λ k l. false_from_ne_true _ (h k (omega arith) l)) (λ l. absurd (omega (arith, l)))

-- ---- ETB and what stands after it, `tail`

closed_three : (body tail : List ℕ) → length tail ≡ 3 → closed body (drop 1 tail) ≡ judged (unstuff body) (get_or tail 1 0) (get_or tail 2 0)
closed_three body [] h = absurd (omega arith)
closed_three body (x ∷ []) h = absurd (omega arith)
closed_three body (x ∷ a ∷ []) h = absurd (omega arith)
closed_three body (x ∷ a ∷ b ∷ []) h = refl
closed_three body (x ∷ a ∷ b ∷ y ∷ ys) h = absurd (omega arith)

closed_not : (body tail : List ℕ) → (length tail ≡ 3 → ⊥) → closed body (drop 1 tail) ≡ Err NoPacket
closed_not body [] h = refl
closed_not body (x ∷ []) h = refl
closed_not body (x ∷ a ∷ []) h = refl
closed_not body (x ∷ a ∷ b ∷ []) h = absurd (h refl)
closed_not body (x ∷ a ∷ b ∷ y ∷ ys) h = refl

module _ (xs : List ℕ) (r : Option ℕ) (f : IsFirstByte (is_byte 0x17) xs r) where
  pub rest_none : r ≡ None → rest_of xs ≡ Err NoPacket
  rest_none e =
      let h = etb_none xs (subst (IsFirstByte (is_byte 0x17) xs) e f) in
      ap (closed (take (before 0x17 xs) xs)) (drop_of_length-le xs {i = suc (before 0x17 xs)} (omega (arith, h)))

  module _ (n : ℕ) (e : r ≡ Some n) (tail : List ℕ) (k : tail ≡ drop n xs) where
    by_tail : rest_of xs ≡ closed (take n xs) (drop 1 tail)
    by_tail = rw (k, etb_some xs n (subst (IsFirstByte (is_byte 0x17) xs) e f), drop-drop 1 n xs, add-one) refl

    pub rest_is : (body : List ℕ) → body ≡ take n xs → length tail ≡ 3 → rest_of xs ≡ judged (unstuff body) (get_or tail 1 0) (get_or tail 2 0)
    rest_is body h l = rw (h) (by_tail ∙ closed_three (take n xs) tail l)

    pub rest_not : (length tail ≡ 3 → ⊥) → rest_of xs ≡ Err NoPacket
    rest_not l = by_tail ∙ closed_not (take n xs) tail l
