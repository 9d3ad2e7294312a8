-- The laws of closing a load: what takes the live store's place, and when.
use mathlib.Core.Path.{◌≡◌, refl, sym, ap, ◌∙◌}
use mathlib.Core.Bool.{Bool, true, false, not, ◌&&◌}
use mathlib.Core.List.{List, ◌++◌}
use Prim.Native.Nat.{ℕ, ◌+◌, ◌-◌, ◌≤◌, min}
use native.Mathlib.Omega.{arith}
use lib.ListN.{length, take, length-append, length-take}
use lib.Seq.{take_all, take-length}
use lib.Dec.{leb}
use borrow.Author.Tests.{leb-true, leb-false}
use Rattle.std.specs.Prelude.{Some, None}
use Rattle.records.specs.Record.{recs}
use Rattle.records.specs.Store.{zeros}
use Rattle.tables.specs.declared.Extent.{Extent}
use Rattle.tables.specs.declared.Load.{Load}
use Rattle.tables.specs.Closing.{not_named, closes, new_bytes, new_records, Closes}
use Rattle.tables.specs.Steps.{staying_bytes, Stays, Replaces, limits_kept}
use Rattle.answer.proofs.Parts.{and_left, and_right}

-- ---- numbers that may be larger than the store

take_min : (k : ℕ) (l : List ℕ) → take (min k (length l)) l ≡ take k l
take_min k l = cases (leb k (length l)) refl
  where
    cases : (t : Bool) → leb k (length l) ≡ t → take (min k (length l)) l ≡ take k l
    cases true e = let h = leb-true k (length l) e in let m : min k (length l) ≡ k = omega arith in ap (λ (n : ℕ). take n l) m
    cases false e =
        let h = leb-false k (length l) e in
        let m : min k (length l) ≡ length l = omega arith in
        ap (λ (n : ℕ). take n l) m ∙ take-length l ∙ sym (take_all k l (omega arith))

pub part_min : (k n : ℕ) (l : List ℕ) → n ≡ min k (length l) → take n l ≡ take k l
part_min k n l e = ap (λ (m : ℕ). take m l) e ∙ take_min k l

-- ---- the judgement, and what follows it

module _ (w : ℕ) (extent : Extent) (live : List ℕ) (load : Load) (loading : List ℕ) (used n : ℕ) (eu : used ≡ min extent.used (length live)) (en : n ≡ min load.used (length loading))
    (stays : Extent) (ks : Stays w (take used live) stays) where
  kept : staying_bytes w (take used live) ≡ staying_bytes w (take extent.used live)
  kept = ap (staying_bytes w) (part_min extent.used used live eu)

  kept_here : staying_bytes w (take used live) ≡ staying_bytes w (take extent.used live)
  kept_here = ap (λ (k : ℕ). staying_bytes w (take k live)) eu ∙ ap (staying_bytes w) (take_min extent.used live)

  bytes_are : new_bytes w extent live load loading ≡ staying_bytes w (take used live) ++ take n loading
  unfolding new_bytes staying_bytes
  bytes_are = sym (rw (part_min load.used n loading en) (ap (λ (l : List ℕ). l ++ take load.used loading) kept_here))

  bytes_long : length (new_bytes w extent live load loading) ≡ stays.used + n
  bytes_long =
      let a = ap length bytes_are ∙ length-append (staying_bytes w (take used live)) (take n loading) in
      let b : length (take n loading) ≡ n = simp length-take (omega arith) in
      let d = ap length (kept ∙ sym kept_here) in
      omega (arith, a, b, d, ks.used)

  records_are : new_records w extent live load ≡ stays.records + load.records
  unfolding new_records
  records_are = ap (λ (k : ℕ). k + load.records) (sym (ks.records ∙ ap (λ (l : List ℕ). length (not_named w (recs l))) (part_min extent.used used live eu)))

  pub limits_are : limits_kept (length live) stays n load ≡ closes w extent live load loading
  unfolding limits_kept closes
  limits_are = sym (rw (bytes_long, records_are) refl)

  -- where it passes a limit
  pub stays_so : false ≡ limits_kept (length live) stays n load → Closes w extent load live loading None live (zeros (length loading))
  stays_so f =
      let g : closes w extent live load loading ≡ false = sym (f ∙ limits_are) in
      record { answer = rw g refl; store = rw g refl; zeroed = refl }

  -- where it passes none
  module _ (f : true ≡ limits_kept (length live) stays n load) where
    both : (leb (stays.used + n) (length live) && leb (stays.records + load.records) 512) ≡ true
    unfolding limits_kept
    both = and_right (not load.over) (leb (stays.used + n) (length live) && leb (stays.records + load.records) 512) (sym f)

    pub few : stays.records + load.records ≤ 512
    few = leb-true (stays.records + load.records) 512 (and_right (leb (stays.used + n) (length live)) (leb (stays.records + load.records) 512) both)

    pub has_place : length (staying_bytes w (take used live)) + length (take n loading) ≤ length live
    has_place =
        let h = leb-true (stays.used + n) (length live) (and_left (leb (stays.used + n) (length live)) (leb (stays.records + load.records) 512) both) in
        let b : length (take n loading) ≡ n = simp length-take (omega arith) in
        let d = ap length (kept ∙ sym kept_here) in
        omega (arith, h, b, d, ks.used)

    pub made : (e : ℕ) (live' : List ℕ) → Replaces w used (take n loading) live e live'
        → Closes w extent load live loading (Some (record { used = e; records = stays.records + load.records })) live' (zeros (length loading))
    made e live' q =
        let g : closes w extent live load loading ≡ true = sym (f ∙ limits_are) in
        let l : e ≡ length (new_bytes w extent live load loading) = q.end ∙ sym (ap length bytes_are ∙ length-append (staying_bytes w (take used live)) (take n loading)) in
        record {
          answer = rw g (λ i. Some (record { used = l i; records = sym records_are i }));
          store = rw g (q.store ∙ ap (λ (x : List ℕ). x ++ zeros (length live - e)) (sym bytes_are) ∙ ap (λ (k : ℕ). new_bytes w extent live load loading ++ zeros (length live - k)) l);
          zeroed = refl;
        }
