-- The versions, network by network.
use mathlib.Core.Path.{◌≡◌, refl, sym, ap, ◌∙◌}
use mathlib.Core.Bool.{Bool, true, false, cond}
use mathlib.Core.List.{List, ◌++◌, flatten, append_assoc}
use Prim.Native.Nat.{ℕ, zero, suc, ◌+◌, ◌-◌, ◌*◌, ◌≤◌, ◌<◌}
use native.Mathlib.Omega.{arith}
use lib.ListN.{length, take, drop}
use lib.Seq.{drop-drop, drop-append-add, take_at, drop_at, take-take, take-append-le, length-take-le}
use lib.Dec.{leb, ltb, eqb}
use borrow.Author.Tests.{ne_eqb, le-leb, leb-true, ltb-true, ltb-false}
use Rattle.answer.specs.Laid.{pasted}
use Rattle.answer.proofs.Laid.{pasted_length}
use Rattle.tables.specs.Closing.{version_of, no_version, new_versions}
use Rattle.answer.proofs.Parts.{drop_take}
use Rattle.tables.proofs.Versions.{many, many_long, versions_same}

-- ---- ten bytes put in the place of a network

module _ (l s : List ℕ) (at : ℕ) (fit : at + length s ≤ length l) where
  split : pasted l at s ≡ take at l ++ (s ++ drop (at + length s) l)
  split = append_assoc (take at l) s (drop (at + length s) l)

  low_long : length (take at l) ≡ at
  low_long = length-take-le at l (omega arith)

  at_place : drop at (pasted l at s) ≡ s ++ drop (at + length s) l
  at_place = ap (drop at) split ∙ drop_at (take at l) (s ++ drop (at + length s) l) at low_long

  past_place : drop (at + length s) (pasted l at s) ≡ drop (at + length s) l
  past_place = sym (drop-drop (length s) at (pasted l at s)) ∙ ap (drop (length s)) at_place ∙ drop_at s (drop (at + length s) l) (length s) refl

  here : length s ≡ 10 → take 10 (drop at (pasted l at s)) ≡ s
  here h = ap (take 10) at_place ∙ take_at s (drop (at + length s) l) 10 h

  after : (k : ℕ) → at + length s ≤ k → drop k (pasted l at s) ≡ drop k l
  after k h =
      let e : at + length s + (k - (at + length s)) ≡ k = omega arith in
      ap (λ (n : ℕ). drop n (pasted l at s)) (sym e) ∙ sym (drop-drop (k - (at + length s)) (at + length s) (pasted l at s))
      ∙ ap (drop (k - (at + length s))) past_place ∙ drop-drop (k - (at + length s)) (at + length s) l ∙ ap (λ (n : ℕ). drop n l) e

  before : (k : ℕ) → k + 10 ≤ at → take 10 (drop k (pasted l at s)) ≡ take 10 (drop k l)
  before k h =
      let e : k + 10 - k ≡ 10 = omega arith in
      let f : take (k + 10) (pasted l at s) ≡ take (k + 10) l =
      ap (take (k + 10)) split ∙ take-append-le (k + 10) (take at l) (s ++ drop (at + length s) l) (omega (arith, low_long)) ∙ take-take (k + 10) at l h in
      ap (λ (n : ℕ). take n (drop k (pasted l at s))) (sym e) ∙ drop_take (pasted l at s) k (k + 10) ∙ ap (drop k) f
      ∙ sym (drop_take l k (k + 10)) ∙ ap (λ (n : ℕ). take n (drop k l)) e

-- ---- all of them the same

many_drop : (n k : ℕ) (v : List ℕ) → length v ≡ 10 → drop (n * 10) (many (n + k) v) ≡ many k v
unfolding flatten
many_drop zero k v h = let e : 0 + k ≡ k = omega arith in ap (λ (m : ℕ). many m v) e
many_drop (suc n) k v h =
    let e : suc n + k ≡ suc (n + k) = omega arith in
    let f : suc n * 10 ≡ length v + n * 10 = omega arith in
    ap (λ (m : ℕ). drop (suc n * 10) (many m v)) e ∙ ap (λ (m : ℕ). drop m (v ++ many (n + k) v)) f ∙ drop-append-add v (many (n + k) v) (n * 10) ∙ many_drop n k v h

many_at : (n k : ℕ) (v : List ℕ) → length v ≡ 10 → n < k → version_of n (many k v) ≡ v
unfolding flatten
many_at n k v h l =
    let e : n + suc (k - suc n) ≡ k = omega arith in
    ap (λ (m : ℕ). version_of n (many m v)) (sym e) ∙ ap (take 10) (many_drop n (suc (k - suc n)) v h) ∙ take_at v (many (k - suc n) v) 10 h

-- ---- THE VERSIONS AFTER a load

module _ (network : ℕ) (version versions : List ℕ) (hv : length version ≡ 10) (hl : length versions ≡ 1000) where
  opened : (network ≡ 0 → ⊥) → network ≤ 99 → new_versions network version versions ≡ pasted (pasted versions (network * 10) version) 0 no_version
  unfolding new_versions
  opened h k = rw (ne_eqb network 0 h, le-leb network 99 k) refl

  one_long : network ≤ 99 → length (pasted versions (network * 10) version) ≡ 1000
  one_long k = pasted_length versions (network * 10) version (omega arith) ∙ hl

  -- for 00: the new one in every place
  pub versions_for_all : network ≡ 0 → (n : ℕ) → n < 100 → version_of n (new_versions network version versions) ≡ version
  unfolding new_versions
  versions_for_all z n h = rw z (many_at n 100 version hv h)

  -- for another network: the new one in its place
  pub version_own : (network ≡ 0 → ⊥) → network ≤ 99 → version_of network (new_versions network version versions) ≡ version
  version_own h k =
      let one = pasted versions (network * 10) version in
      let n = one_long k in
      ap (version_of network) (opened h k) ∙ ap (take 10) (after one no_version 0 (omega arith) (network * 10) (omega arith))
      ∙ here versions version (network * 10) (omega arith) hv

  -- ten "0" bytes in that of 00
  pub version_zero : (network ≡ 0 → ⊥) → network ≤ 99 → version_of 0 (new_versions network version versions) ≡ no_version
  version_zero h k = let n = one_long k in ap (version_of 0) (opened h k) ∙ here (pasted versions (network * 10) version) no_version 0 (omega arith) refl

  -- and the others as they were
  pub version_other : (network ≡ 0 → ⊥) → network ≤ 99 → (n : ℕ) → (n ≡ 0 → ⊥) → (n ≡ network → ⊥) → version_of n (new_versions network version versions) ≡ version_of n versions
  version_other h k n z ne =
      let one = pasted versions (network * 10) version in
      let l = one_long k in
      ap (version_of n) (opened h k) ∙ ap (take 10) (after one no_version 0 (omega arith) (n * 10) (omega arith)) ∙ cases (ltb n network) refl
    where
      cases : (t : Bool) → ltb n network ≡ t → version_of n (pasted versions (network * 10) version) ≡ version_of n versions
      cases true e = let g = ltb-true n network e in before versions version (network * 10) (omega arith) (n * 10) (omega arith)
      cases false e = let g = ltb-false n network e in ap (take 10) (after versions version (network * 10) (omega arith) (n * 10) (omega arith))

  -- there is no network above 99
  pub version_none : 99 < network → new_versions network version versions ≡ versions
  version_none h = sym (versions_same network version versions h)

  -- there are 1,000 bytes of them again
  pub versions_long : length (new_versions network version versions) ≡ 1000
  unfolding new_versions
  versions_long = cases (eqb network 0) (leb network 99) refl
    where
      cases : (a b : Bool) → leb network 99 ≡ b → length (cond a (many 100 version) (cond b (pasted (pasted versions (network * 10) version) 0 no_version) versions)) ≡ 1000
      cases true b e = many_long 100 version hv
      cases false true e =
          let k = leb-true network 99 e in
          let l = one_long k in
          pasted_length (pasted versions (network * 10) version) 0 no_version (omega arith) ∙ l
      cases false false e = hl
