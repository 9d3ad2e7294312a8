-- Records that are taken and within the limits stay so: with those that a good block adds, and in the new set of an accepted load.
use mathlib.Core.Path.{◌≡◌, refl, sym, ap, ◌∙◌, subst}
use mathlib.Core.Bool.{Bool, true, not, ◌&&◌, cond}
use mathlib.Core.List.{List, [], ◌++◌, flatten}
use Prim.Native.Nat.{ℕ, ◌-◌}
use native.Mathlib.Omega.{arith}
use lib.ListN.{length, take}
use Rattle.answer.specs.Pieces.{every}
use Rattle.answer.proofs.Parts.{and_right}
use Rattle.records.specs.Record.{recs, takes, good_block, records_of}
use Rattle.records.specs.Store.{zeros, store_of, fits}
use Rattle.records.specs.Claims.{AllRecords}
use Rattle.records.proofs.Stores.{fits_both}
use Rattle.std.specs.Prelude.{Option, Some, None}
use Rattle.tables.specs.declared.Extent.{Extent}
use Rattle.tables.specs.Loading.{taken, taken_of, Kept, keep_all, Stocked, stock_all, Adds}
use Rattle.tables.specs.Closing.{new_set, new_bytes, new_extent, closes, Closes}
use Rattle.tables.proofs.Loads.{add_keeps, add_sound_as}
use Rattle.tables.proofs.NewSets.{live_sound_as}
use Rattle.execution.specs.Core.{Loading, Core}
use Rattle.execution.specs.Core.Opening.{some}
use Rattle.execution.specs.Execute.{accepts}
use Rattle.execution.specs.Stored.{extent_of, load_of}
use Rattle.execution.specs.Claims.{Fine}
use Rattle.execution.proofs.Asked.{taken_is}
use Rattle.execution.proofs.Between.{fine_long, fine_back, fine_sound}

-- ---- what a load keeps

-- an empty list is such records, for any network
pub none_fine : (network : ℕ) → Fine network []
unfolding every flatten
none_fine network = record { all = tt; taken_all = refl; fit = fits_both 32768 [] (omega arith) (omega arith) }

module _ (network : ℕ) (k : Kept) (f : Fine network k.records) (block : List ℕ) (g : good_block block ≡ true) where
  abbrev bytes : List ℕ
  bytes = store_of 32768 k.records

  abbrev there : Stocked
  there = stock_all (record { load = load_of k; bytes = bytes }) (taken_of network block)

  abbrev after : Kept
  after = keep_all (length bytes) (record { records = recs (take (length (flatten k.records)) bytes); over = k.over }) (taken_of network block)

  after_is : after ≡ keep_all 32768 k (taken network (records_of block))
  after_is =
      let a = fine_long network k.records f in
      let b = fine_back network k.records f in
      let d = taken_is network block g in
      λ i. keep_all (a i) (record { records = b i; over = k.over }) (d i)

  -- what a load keeps stays such records when a good block is added
  pub keep_fine : Fine network (keep_all 32768 k (taken network (records_of block))).records
  keep_fine =
      let s = fine_sound network k.records f in
      let adds : Adds network (load_of k) block bytes there.load there.bytes = record { load' = refl; store' = refl } in
      let a = add_sound_as network (load_of k) block bytes s there.load there.bytes adds in
      let h = add_keeps network (load_of k) block bytes s there.load there.bytes adds in
      let e = ap (λ (x : Kept). x.records) after_is in
      record {
        all = subst AllRecords e a.all;
        taken_all = ap (every (takes network)) (sym e) ∙ a.taken_all;
        fit = ap (fits 32768) (sym e) ∙ ap (λ (n : ℕ). fits n after.records) (sym (fine_long network k.records f)) ∙ h.fit;
      }

-- ---- the new set

module _ (c : Core) (live : Fine 0 c.records) (l : Loading) (load : Fine l.network l.kept.records) (done : accepts c (some l) ≡ true) where
  abbrev live_bytes : List ℕ
  live_bytes = store_of 32768 c.records

  abbrev load_bytes : List ℕ
  load_bytes = store_of 32768 l.kept.records

  -- the live records and the new set, read back from the bytes
  abbrev live_back : List (List ℕ)
  live_back = recs (take (length (flatten c.records)) live_bytes)

  abbrev new_back : List (List ℕ)
  new_back = new_set l.network live_back (recs (take (length (flatten l.kept.records)) load_bytes))

  abbrev closed : Bool
  closed = closes l.network (extent_of c.records) live_bytes (load_of l.kept) load_bytes

  abbrev new_long : ℕ
  new_long = length (new_bytes l.network (extent_of c.records) live_bytes (load_of l.kept) load_bytes)

  abbrev answer : Option Extent
  answer = cond closed (Some (new_extent l.network (extent_of c.records) live_bytes (load_of l.kept) load_bytes)) None

  abbrev live_after : List ℕ
  live_after = cond closed (new_bytes l.network (extent_of c.records) live_bytes (load_of l.kept) load_bytes ++ zeros (length live_bytes - new_long)) live_bytes

  -- what closing does to the stores
  closing : Closes l.network (extent_of c.records) (load_of l.kept) live_bytes load_bytes answer live_after (zeros (length load_bytes))
  closing = record { answer = refl; store = refl; zeroed = refl }

  new_back_lem : new_back ≡ new_set l.network c.records l.kept.records
  new_back_lem = λ i. new_set l.network (fine_back 0 c.records live i) (fine_back l.network l.kept.records load i)

  both_good : (not l.kept.over && fits 32768 (new_set l.network c.records l.kept.records)) ≡ true
  unfolding accepts
  both_good = done

  records_after_lem : cond (not l.kept.over && fits (length live_bytes) new_back) new_back live_back ≡ new_set l.network c.records l.kept.records
  records_after_lem =
      let e : (not l.kept.over && fits (length live_bytes) new_back) ≡ true = rw (fine_long 0 c.records live, new_back_lem) both_good in
      ap (λ (b : Bool). cond b new_back live_back) e ∙ new_back_lem

  -- the new set of an accepted load is such records, for any network
  pub new_fine : Fine 0 (new_set l.network c.records l.kept.records)
  new_fine =
      let a =
      live_sound_as l.network (extent_of c.records) live_bytes (load_of l.kept) load_bytes (fine_sound 0 c.records live)
      (fine_sound l.network l.kept.records load) answer live_after (zeros (length load_bytes)) closing in
      record {
        all = subst AllRecords records_after_lem a.all;
        taken_all = ap (every (takes 0)) (sym records_after_lem) ∙ a.taken_all;
        fit = and_right (not l.kept.over) (fits 32768 (new_set l.network c.records l.kept.records)) both_good;
      }
