-- Closing a load, said of records: the new set takes the live store's place just if it passes no limit, and both stores stay sound.
use mathlib.Core.Path.{◌≡◌, refl, sym, ap, ◌∙◌}
use mathlib.Core.Bool.{Bool, true, false, not, ◌&&◌, ◌||◌, cond}
use mathlib.Core.List.{List, [], ◌∷◌, ◌++◌, flatten}
use Prim.Native.Nat.{ℕ, ◌+◌}
use lib.ListN.{length, take, length-append}
use lib.Dec.{eqb}
use Rattle.answer.specs.Pieces.{every}
use Rattle.records.specs.Record.{record_in, recs, kind_of, network_of, is_kind, takes, is_named}
use Rattle.records.specs.Store.{store_of, fits, sound_store}
use Rattle.records.specs.Claims.{AllRecords, SoundAs}
use Rattle.records.proofs.Stores.{sound_as, as_sound, used_part, sound_recs, fits_bytes, store_long, store_none, zeros_sound}
use Rattle.std.specs.Prelude.{Option, Some, None, is_some}
use Rattle.tables.specs.declared.Extent.{Extent}
use Rattle.tables.specs.declared.Load.{Load}
use Rattle.tables.specs.Closing.{not_named, new_set, new_bytes, new_records, new_extent, closes, Closes}
use Rattle.tables.specs.Claims.{new_in, new_fits, extent_after}
use Rattle.answer.proofs.Parts.{and_left, and_right, flatten_append, every_append, all_join}

-- ---- what a load for one network takes, a load for 00 takes

any_takes : (network : ℕ) (r : List ℕ) → takes network r ≡ true → takes 0 r ≡ true
unfolding takes
any_takes network r e =
    cases (is_kind (kind_of r)) (not (eqb (network_of r) 0)) (eqb network 0 || eqb (network_of r) network) e
  where
    cases : (a b c : Bool) → (a && (b && c)) ≡ true → (a && (b && true)) ≡ true
    cases true true c h = refl
    cases true false c h = h
    cases false b c h = h

any_all : (network : ℕ) (rs : List (List ℕ)) → every (takes network) rs ≡ true → every (takes 0) rs ≡ true
unfolding every
any_all network [] e = refl
any_all network (r ∷ rs) e =
    rw (any_takes network r (and_left (takes network r) (every (takes network) rs) e)) (any_all network rs (and_right (takes network r) (every (takes network) rs) e))

-- ---- the records that stay

stay_all : (network : ℕ) (rs : List (List ℕ)) → AllRecords rs → AllRecords (not_named network rs)
unfolding not_named
stay_all network [] a = tt
stay_all network (r ∷ rs) a = cases (is_named network r) (stay_all network rs a.2)
  where
    cases : (t : Bool) → AllRecords (not_named network rs) → AllRecords (cond t (not_named network rs) (r ∷ not_named network rs))
    cases true h = h
    cases false h = (a.0, a.1, h)

stay_every : (test : List ℕ → Bool) (network : ℕ) (rs : List (List ℕ)) → every test rs ≡ true → every test (not_named network rs) ≡ true
unfolding not_named every
stay_every test network [] e = refl
stay_every test network (r ∷ rs) e = cases (is_named network r) (stay_every test network rs (and_right (test r) (every test rs) e))
  where
    cases : (t : Bool) → every test (not_named network rs) ≡ true → every test (cond t (not_named network rs) (r ∷ not_named network rs)) ≡ true
    cases true h = h
    cases false h = rw (and_left (test r) (every test rs) e) h

-- ---- CLOSING on sound stores

module _ (network : ℕ) (extent : Extent) (live : List ℕ) (load : Load) (loading : List ℕ)
    (live-sound : sound_store 0 extent.used extent.records live ≡ true) (load-sound : sound_store network load.used load.records loading ≡ true) where
  -- the live records, those of the load, and the new set
  abbrev pub live_records : List (List ℕ)
  live_records = recs (take extent.used live)

  abbrev pub load_records : List (List ℕ)
  load_records = recs (take load.used loading)

  abbrev pub new : List (List ℕ)
  new = new_in network extent live load loading

  live_as : SoundAs 0 extent.used extent.records live live_records
  live_as = sound_as 0 extent.used extent.records live live-sound

  load_as_lem : SoundAs network load.used load.records loading load_records
  load_as_lem = sound_as network load.used load.records loading load-sound

  new_bytes_lem : new_bytes network extent live load loading ≡ flatten new
  unfolding new_bytes new_set
  new_bytes_lem =
      ap (λ (l : List ℕ). flatten (not_named network live_records) ++ l) (used_part network load.used load.records loading load_records load_as_lem)
      ∙ sym (flatten_append (not_named network live_records) load_records)

  new_records_lem : new_records network extent live load ≡ length new
  unfolding new_records new_set
  new_records_lem = ap (λ (n : ℕ). length (not_named network live_records) + n) load_as_lem.records_is ∙ sym (length-append (not_named network live_records) load_records)

  -- it closes just if the load is not over and the new set passes no limit
  pub closes_is : closes network extent live load loading ≡ (not load.over && fits (length live) new)
  unfolding closes fits
  closes_is = rw (new_bytes_lem, new_records_lem) refl

  new_all : AllRecords new
  unfolding new_set
  new_all = all_join record_in (not_named network live_records) load_records (stay_all network live_records live_as.all) load_as_lem.all

  new_taken : every (takes 0) new ≡ true
  unfolding new_set
  new_taken =
      every_append (takes 0) (not_named network live_records) load_records (stay_every (takes 0) network live_records live_as.taken_all) (any_all network load_records load_as_lem.taken_all)

  -- the extent of the store of the new set
  abbrev new_store_extent : Extent
  new_store_extent = record { used = length (flatten new); records = length new }

  extent_lem : new_extent network extent live load loading ≡ new_store_extent
  extent_lem = λ i. record { used = length (new_bytes_lem i); records = new_records_lem i }

  module _ (r : Option Extent) (live' loading' : List ℕ) (c : Closes network extent load live loading r live' loading') where
    -- whether it closed
    pub done_is : is_some r ≡ new_fits network extent live load loading
    done_is = ap (λ (o : Option Extent). is_some o) c.answer ∙ told (closes network extent live load loading) ∙ closes_is
      where
        told : (t : Bool) → is_some (cond t (Some (new_extent network extent live load loading)) None) ≡ t
        told true = refl
        told false = refl

    -- the live store is that of the new set, or stays
    pub live_is : live' ≡ cond (new_fits network extent live load loading) (store_of (length live) (new_in network extent live load loading)) live
    unfolding store_of
    live_is = c.store ∙ rw (closes_is, new_bytes_lem) refl

    -- the loading store is one with no record
    pub loading_is : loading' ≡ store_of (length loading) []
    loading_is = c.zeroed ∙ sym (store_none (length loading))

    -- the records of the live store after it
    abbrev pub records_after : List (List ℕ)
    records_after = cond (new_fits network extent live load loading) new live_records

    -- the live store's extent after it
    abbrev pub after : Extent
    after = extent_after extent r

    -- the live store is sound, by that extent
    pub live_sound_as : SoundAs 0 after.used after.records live' records_after
    live_sound_as =
        cases (not load.over && fits (length live) new) refl live_is
        (c.answer ∙ rw (closes_is, extent_lem) refl)
      where
        cases : (t : Bool) → (not load.over && fits (length live) new) ≡ t → live' ≡ cond t (store_of (length live) new) live
            → r ≡ cond t (Some new_store_extent) None → SoundAs 0 after.used after.records live' (cond t new live_records)
        cases true e l a =
            let u : after.used ≡ length (flatten new) = ap (λ (o : Option Extent). (extent_after extent o).used) a in
            let n : after.records ≡ length new = ap (λ (o : Option Extent). (extent_after extent o).records) a in
            let f = and_right (not load.over) (fits (length live) new) e in
            let k : length live' ≡ length live = ap length l ∙ store_long (length live) new (fits_bytes (length live) new f) in
            record {
              is = l ∙ ap (λ (m : ℕ). store_of m new) (sym k);
              used_is = u;
              records_is = n;
              taken_all = new_taken;
              fit = ap (λ (m : ℕ). fits m new) k ∙ f;
              all = new_all;
            }
        cases false e l a =
            let u : after.used ≡ extent.used = ap (λ (o : Option Extent). (extent_after extent o).used) a in
            let n : after.records ≡ extent.records = ap (λ (o : Option Extent). (extent_after extent o).records) a in
            let s = live_as in
            let k : length live' ≡ length live = ap length l in
            record {
              is = l ∙ s.is ∙ ap (λ (m : ℕ). store_of m live_records) (sym k);
              used_is = u ∙ s.used_is;
              records_is = n ∙ s.records_is;
              taken_all = s.taken_all;
              fit = ap (λ (m : ℕ). fits m live_records) k ∙ s.fit;
              all = s.all;
            }

    pub closed_sound_lem : sound_store 0 after.used after.records live' ≡ true
    closed_sound_lem = as_sound 0 after.used after.records live' records_after live_sound_as

    -- and its records are the new set, or those of before
    pub closed_records : recs (take after.used live') ≡ cond (new_fits network extent live load loading) (new_in network extent live load loading) (recs (take extent.used live))
    closed_records = sound_recs 0 after.used after.records live' records_after live_sound_as

    -- the loading store is sound for the next load, for whatever network
    pub emptied_sound : (next : ℕ) → sound_store next 0 0 loading' ≡ true
    emptied_sound next = ap (sound_store next 0 0) c.zeroed ∙ zeros_sound next (length loading)
