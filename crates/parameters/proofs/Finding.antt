-- The laws of finding a parameter: a walk over the parameters, and the part that is handed back.
use mathlib.Core.Path.{◌≡◌, refl, sym, ap, ◌∙◌}
use mathlib.Core.Bool.{Bool, true, false, cond}
use mathlib.Core.List.{List, [], ◌∷◌}
use Prim.Native.Nat.{ℕ, zero, suc, ◌+◌, ◌-◌, ◌≤◌}
use native.Mathlib.Omega.{arith}
use lib.ListN.{length, take, drop, length-drop, length-take}
use lib.Seq.{get_or-take, get_or-drop}
use lib.Dec.{eqb}
use borrow.Author.Tests.{eq-eqb, ne_eqb, eqb-true, eqb-false}
use Rattle.std.specs.Prelude.{Ok, Err}
use Rattle.answer.specs.declared.refusal.Refusal.{Refusal}
use Rattle.answer.specs.declared.refusal.Refusal.TheVariants.{NoParameter, NotFound}
use Rattle.answer.specs.Laid.{PieceAt}
use Rattle.answer.proofs.Pieces.{piece_more, piece_none}
use Rattle.answer.proofs.Promises.{same_good, not_good}
use Rattle.parameters.specs.Parameters.{two_at, parameter_in, parameters, whole_list, number_of, data_of}
use Rattle.parameters.specs.Finding.{numbered, nth, find, data_at, start_of}
use Rattle.answer.proofs.Parts.{inner_part}
use Rattle.parameters.specs.Within.{parameter_le}
use Rattle.parameters.proofs.Parameters.{parameter_four, parameter_there, piece_long}

-- ---- the nth of the parameters that have the number

pub nth_zero : (n : ℕ) (ps : List (List ℕ)) → n ≡ 0 → nth n ps ≡ Err NotFound
unfolding nth
nth_zero n ps e = rw e refl

pub nth_none : (n : ℕ) → nth n [] ≡ Err NotFound
unfolding nth
nth_none zero = refl
nth_none (suc n) = refl

pub nth_first : (n : ℕ) (p : List ℕ) (ps : List (List ℕ)) → n ≡ 1 → nth n (p ∷ ps) ≡ Ok (data_of p)
unfolding nth
nth_first n p ps e = rw e refl

pub nth_later : (n : ℕ) (p : List ℕ) (ps : List (List ℕ)) → 1 ≤ n → (n ≡ 1 → ⊥) → nth n (p ∷ ps) ≡ nth (n - 1) ps
unfolding nth
nth_later zero p ps h k = absurd (omega arith)
nth_later (suc zero) p ps h k = absurd (k refl)
nth_later (suc (suc n)) p ps h k = ap (λ (m : ℕ). nth m ps) (let e : suc n ≡ suc (suc n) - 1 = omega arith in e)

pub data_zero : (number n at : ℕ) (ps : List (List ℕ)) → n ≡ 0 → data_at number n at ps ≡ 0
unfolding data_at
data_zero number n at [] e = refl
data_zero number n at (p ∷ ps) e =
    cases (eqb (number_of p) number) (data_zero number (n - 1) (at + length p) ps (omega arith)) (data_zero number n (at + length p) ps e)
  where
    cases : (t : Bool) → data_at number (n - 1) (at + length p) ps ≡ 0 → data_at number n (at + length p) ps ≡ 0
        → cond t (cond (eqb n 1) (at + 4) (data_at number (n - 1) (at + length p) ps)) (data_at number n (at + length p) ps) ≡ 0
    cases true h k = rw (ne_eqb n 1 (λ z. omega arith)) h
    cases false h k = k

-- where none is found none starts
data_lost : (number n at : ℕ) (ps : List (List ℕ)) (e : Refusal) → nth n (numbered number ps) ≡ Err e → data_at number n at ps ≡ 0
unfolding data_at numbered
data_lost number n at [] e h = refl
data_lost number n at (p ∷ ps) e h = cases (eqb (number_of p) number) n (λ m a. data_lost number m a ps e) h
  where
    cases : (t : Bool) (n : ℕ) → ((m a : ℕ) → nth m (numbered number ps) ≡ Err e → data_at number m a ps ≡ 0) → nth n (cond t (p ∷ numbered number ps) (numbered number ps)) ≡ Err e
        → cond t (cond (eqb n 1) (at + 4) (data_at number (n - 1) (at + length p) ps)) (data_at number n (at + length p) ps) ≡ 0
    cases true zero ih h = data_zero number (0 - 1) (at + length p) ps (omega arith)
    cases true (suc zero) ih h = absurd (not_good (sym h ∙ nth_first 1 p (numbered number ps) refl))
    cases true (suc (suc n)) ih h =
        let o : suc (suc n) ≡ 1 → ⊥ = λ z. omega arith in
        rw (ne_eqb (suc (suc n)) 1 o) (ih (suc (suc n) - 1) (at + length p) (sym (nth_later (suc (suc n)) p (numbered number ps) (omega arith) o) ∙ h))
    cases false n ih h = ih n (at + length p) h

pub start_lost : (list : List ℕ) (number n : ℕ) (e : Refusal) → find list number n ≡ Err e → start_of list number n ≡ 0
unfolding find start_of
start_lost list number n e = cases (whole_list list)
  where
    cases : (t : Bool) → cond t (nth n (numbered number (parameters list))) (Err NoParameter) ≡ Err e → cond t (data_at number n 0 (parameters list)) 0 ≡ 0
    cases true h = data_lost number n 0 (parameters list) e h
    cases false h = refl

-- ---- a walk: the parameter at a place, of r bytes

module _ (s : List ℕ) (at r number : ℕ) (p : r ≡ parameter_in (drop at s)) where
  pub numbered_none : r ≡ 0 → numbered number (parameters (drop at s)) ≡ []
  unfolding numbered
  numbered_none z = rw (piece_none parameter_in parameter_le s at r p z) refl

  module _ (some : r ≡ 0 → ⊥) where
    pub four : 4 ≤ r
    four = omega (arith, p, parameter_four (drop at s) (λ z. some (p ∙ z)))

    number_is : number_of (take r (drop at s)) ≡ two_at s at
    number_is =
        let h = four in
        let z : at + 0 ≡ at = omega arith in
        rw (get_or-take r (drop at s) 0 0 (omega arith), get_or-take r (drop at s) 1 0 (omega arith), get_or-drop at s 0 0, get_or-drop at s 1 0, z) refl

    pub numbered_this : two_at s at ≡ number → numbered number (parameters (drop at s)) ≡ take r (drop at s) ∷ numbered number (parameters (drop (at + r) s))
    unfolding numbered
    numbered_this e = rw (piece_more parameter_in parameter_le s at r p some, number_is, eq-eqb (two_at s at) number e) refl

    pub numbered_other : (two_at s at ≡ number → ⊥) → numbered number (parameters (drop at s)) ≡ numbered number (parameters (drop (at + r) s))
    unfolding numbered
    numbered_other e = rw (piece_more parameter_in parameter_le s at r p some, number_is, ne_eqb (two_at s at) number e) refl

    -- the data of this parameter, as a part of the list
    pub data_part : take (at + r - (at + 4)) (drop (at + 4) s) ≡ data_of (take r (drop at s))
    data_part = inner_part s at 4 r

    module _ (n : ℕ) where
      pub nth_this : two_at s at ≡ number → n ≡ 1 → nth n (numbered number (parameters (drop at s))) ≡ Ok (data_of (take r (drop at s)))
      nth_this e f = ap (nth n) (numbered_this e) ∙ nth_first n (take r (drop at s)) (numbered number (parameters (drop (at + r) s))) f

      pub data_this : two_at s at ≡ number → n ≡ 1 → data_at number n at (parameters (drop at s)) ≡ at + 4
      unfolding data_at
      data_this e f = rw (piece_more parameter_in parameter_le s at r p some, number_is, eq-eqb (two_at s at) number e, eq-eqb n 1 f) refl

      pub data_later : two_at s at ≡ number → (n ≡ 1 → ⊥) → data_at number n at (parameters (drop at s)) ≡ data_at number (n - 1) (at + r) (parameters (drop (at + r) s))
      unfolding data_at
      data_later e f = rw (piece_more parameter_in parameter_le s at r p some, number_is, eq-eqb (two_at s at) number e, ne_eqb n 1 f, piece_long s at r p) refl

      pub data_other : (two_at s at ≡ number → ⊥) → data_at number n at (parameters (drop at s)) ≡ data_at number n (at + r) (parameters (drop (at + r) s))
      unfolding data_at
      data_other e = rw (piece_more parameter_in parameter_le s at r p some, number_is, ne_eqb (two_at s at) number e, piece_long s at r p) refl

-- ---- what is found stands in the list where its place says

module _ (s : List ℕ) (number : ℕ) (d : List ℕ) where
  abbrev Found : ℕ → ℕ → Type 0
  Found at n = nth n (numbered number (parameters (drop at s))) ≡ Ok d → take (length d) (drop (data_at number n at (parameters (drop at s))) s) ≡ d

  abbrev FoundTo : ℕ → Type 0
  FoundTo k = (at n : ℕ) → at ≤ length s → length s - at ≤ k → Found at n

  module _ (at n r : ℕ) (p : PieceAt parameter_in s at r) where
    found_end : r ≡ 0 → Found at n
    found_end z e = absurd (not_good (sym (nth_none n) ∙ ap (nth n) (sym (numbered_none s at r number p.is z)) ∙ e))

    module _ (some : r ≡ 0 → ⊥) where
      found_first : two_at s at ≡ number → n ≡ 1 → Found at n
      found_first h o e =
          let ps = numbered number (parameters (drop (at + r) s)) in
          let q : data_of (take r (drop at s)) ≡ d =
          same_good (sym (nth_first n (take r (drop at s)) ps o) ∙ ap (nth n) (sym (numbered_this s at r number p.is some h)) ∙ e) in
          let f = four s at r number p.is some in
          let w = p.within in
          let m : length d ≡ at + r - (at + 4) =
          ap (λ (x : List ℕ). length x) (sym q) ∙ simp (length-drop, length-take) (omega arith) in
          rw (data_this s at r number p.is some n h o, m) (data_part s at r number p.is some ∙ q)

      found_later : two_at s at ≡ number → (n ≡ 1 → ⊥) → Found (at + r) (n - 1) → Found at n
      found_later h o ih e =
          let ps = numbered number (parameters (drop (at + r) s)) in
          let l = ap (nth n) (sym (numbered_this s at r number p.is some h)) ∙ e in
          rw (data_later s at r number p.is some n h o) (ih (sym (nth_later n (take r (drop at s)) ps (positive n l) o) ∙ l))
        where
          positive : (n : ℕ) → nth n (take r (drop at s) ∷ numbered number (parameters (drop (at + r) s))) ≡ Ok d → 1 ≤ n
          positive zero f = absurd (not_good (sym (nth_zero 0 (take r (drop at s) ∷ numbered number (parameters (drop (at + r) s))) refl) ∙ f))
          positive (suc n) f = omega arith

      found_other : (two_at s at ≡ number → ⊥) → Found (at + r) n → Found at n
      found_other h ih e = rw (data_other s at r number p.is some n h) (ih (ap (nth n) (sym (numbered_other s at r number p.is some h)) ∙ e))

      found_on : (k : ℕ) → length s - at ≤ suc k → FoundTo k → Found at n
      found_on k h ih = cases (eqb (two_at s at) number) (eqb n 1) refl refl
        where
          next : (m : ℕ) → Found (at + r) m
          next m = let f = four s at r number p.is some in ih (at + r) m p.within (omega arith)

          cases : (a b : Bool) → eqb (two_at s at) number ≡ a → eqb n 1 ≡ b → Found at n
          cases true true e f = found_first (eqb-true (two_at s at) number e) (eqb-true n 1 f)
          cases true false e f = found_later (eqb-true (two_at s at) number e) (eqb-false n 1 f) (next (n - 1))
          cases false b e f = found_other (eqb-false (two_at s at) number e) (next n)

    found_at : (k : ℕ) → length s - at ≤ suc k → FoundTo k → Found at n
    found_at k h ih = cases (eqb r 0) refl
      where
        cases : (t : Bool) → eqb r 0 ≡ t → Found at n
        cases true e = found_end (eqb-true r 0 e)
        cases false e = found_on (eqb-false r 0 e) k h ih

  piece : (at : ℕ) → at ≤ length s → PieceAt parameter_in s at (parameter_in (drop at s))
  piece at h = parameter_there s at (parameter_in (drop at s)) h refl

  found_to : (k : ℕ) → FoundTo k
  found_to zero = λ at n h z. found_end at n (parameter_in (drop at s)) (piece at h) (omega (arith, simp length-drop at (parameter_le (drop at s))))
  found_to (suc k) = λ at n h z. found_at at n (parameter_in (drop at s)) (piece at h) k z (found_to k)

pub found_there : (list : List ℕ) (number n : ℕ) (d : List ℕ) → find list number n ≡ Ok d → take (length d) (drop (start_of list number n) list) ≡ d
unfolding find start_of
found_there list number n d e = cases (whole_list list) refl e
  where
    cases : (t : Bool) → whole_list list ≡ t → cond t (nth n (numbered number (parameters list))) (Err NoParameter) ≡ Ok d
        → take (length d) (drop (cond t (data_at number n 0 (parameters list)) 0) list) ≡ d
    cases true w f = found_to list number d (length list) 0 n (omega arith) (omega arith) f
    cases false w f = absurd (not_good f)
