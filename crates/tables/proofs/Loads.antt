-- Adding to a load, said of records: the store holds what is kept, and a sound store stays sound.
use mathlib.Core.Path.{◌≡◌, refl, sym, ap, ◌∙◌, subst}
use mathlib.Core.Bool.{Bool, true, false, not, ◌&&◌, ◌||◌, cond}
use mathlib.Core.List.{List, [], ◌∷◌, ◌++◌, flatten, append-nil}
use Prim.Native.Nat.{ℕ, zero, suc, ◌+◌, ◌-◌}
use native.Mathlib.Omega.{arith}
use lib.ListN.{length, take, drop, length-append, length-drop, length-replicate}
use lib.Seq.{take_at, drop_at, drop-drop}
use lib.Dec.{leb, ltb}
use borrow.Author.Tests.{le-leb, lt-leb, ltb-true, ltb-false}
use Rattle.answer.specs.Pieces.{every}
use Rattle.answer.specs.Laid.{pasted}
use Rattle.records.specs.Record.{record_in, recs, takes, good_block, records_of}
use Rattle.records.specs.Store.{zeros, store_of, fits, all_zero, sound_store}
use Rattle.records.specs.Claims.{AllRecords, SoundAs}
use Rattle.records.proofs.Records.{recs_all}
use Rattle.records.proofs.Stores.{sound_as, as_sound, fits_bytes, store_long, zeros_are, zeros_all}
use Rattle.tables.specs.declared.Load.{Load}
use Rattle.tables.specs.Loading.{taken, taken_of, Kept, keep_one, keep_all, Stocked, has_room, stock_one, stock_all, Adds}
use Rattle.tables.specs.Claims.{Holds}
use Rattle.answer.proofs.Parts.{and_left, and_right, flatten_append, every_append, all_join}
use Rattle.tables.proofs.Stocking.{both}

-- ---- one record more

flatten_one : (ks : List (List ℕ)) (r : List ℕ) → flatten (ks ++ (r ∷ [])) ≡ flatten ks ++ r
unfolding flatten
flatten_one ks r = flatten_append ks (r ∷ []) ∙ ap (λ (l : List ℕ). flatten ks ++ l) (append-nil r)

one_bytes : (ks : List (List ℕ)) (r : List ℕ) → length (flatten (ks ++ (r ∷ []))) ≡ length (flatten ks) + length r
one_bytes ks r = ap length (flatten_one ks r) ∙ length-append (flatten ks) r

one_records : (ks : List (List ℕ)) (r : List ℕ) → length (ks ++ (r ∷ [])) ≡ length ks + 1
one_records ks r = length-append ks (r ∷ [])

zeros_drop : (n m : ℕ) → drop n (zeros m) ≡ zeros (m - n)
zeros_drop n m = zeros_are (drop n (zeros m)) (all n m) ∙ ap zeros (length-drop n (zeros m) ∙ ap (λ (k : ℕ). k - n) (length-replicate m 0))
  where
    all : (n m : ℕ) → all_zero (drop n (zeros m)) ≡ true
    all zero m = zeros_all m
    all (suc n) zero = zeros_all 0
    all (suc n) (suc m) = all n m

-- a record put behind others
put_behind : (size : ℕ) (ks : List (List ℕ)) (r : List ℕ) → pasted (store_of size ks) (length (flatten ks)) r ≡ store_of size (ks ++ (r ∷ []))
unfolding store_of
put_behind size ks r =
    let n = length (flatten ks) in
    let z = zeros (size - n) in
    let d : drop (n + length r) (flatten ks ++ z) ≡ zeros (size - length (flatten (ks ++ (r ∷ [])))) =
    sym (drop-drop (length r) n (flatten ks ++ z)) ∙ ap (drop (length r)) (drop_at (flatten ks) z n refl) ∙ zeros_drop (length r) (size - n)
    ∙ ap zeros (let e : size - n - length r ≡ size - length (flatten (ks ++ (r ∷ []))) = omega (arith, one_bytes ks r) in e) in
    rw (take_at (flatten ks) z n refl, d, flatten_one ks r) refl

module _ (size : ℕ) (k : Kept) (s : Stocked) (h : Holds size k s) (r : List ℕ) where
  size_is : length s.bytes ≡ size
  size_is = ap length h.bytes_are ∙ store_long size k.records (fits_bytes size k.records h.fit)

  -- the store has room for it just if it fits with those that are kept
  room_is : has_room s.load s.bytes r ≡ fits size (k.records ++ (r ∷ []))
  unfolding has_room fits
  room_is =
      let e = one_bytes k.records r in
      let f = one_records k.records r in
      rw (size_is, e, f, h.used_is, h.records_are)
      (ap (λ (t : Bool). leb (length (flatten k.records) + length r) size && t) (ltb_leb (length k.records)))
    where
      ltb_leb : (n : ℕ) → ltb n 512 ≡ leb (n + 1) 512
      ltb_leb n = cases (ltb n 512) refl
        where
          cases : (t : Bool) → ltb n 512 ≡ t → t ≡ leb (n + 1) 512
          cases true e = let l = ltb-true n 512 e in sym (le-leb (n + 1) 512 (omega arith))
          cases false e = let l = ltb-false n 512 e in sym (lt-leb (n + 1) 512 (omega arith))

  pub holds_one : Holds size (keep_one size k r) (stock_one s r)
  unfolding keep_one stock_one
  holds_one = rw (room_is, h.over_is) (cases k.over (fits size (k.records ++ (r ∷ []))) refl)
    where
      cases : (o f : Bool) → fits size (k.records ++ (r ∷ [])) ≡ f
          → Holds size
          (cond (o || not f) (record { records = k.records; over = true }) (record { records = k.records ++ (r ∷ []); over = false }))
          (cond (not o && f)
          (record { load = record { used = s.load.used + length r; records = s.load.records + 1; over = false }; bytes = pasted s.bytes s.load.used r })
          (record { load = record { used = s.load.used; records = s.load.records; over = true }; bytes = s.bytes }))
      cases true f e = record { bytes_are = h.bytes_are; used_is = h.used_is; records_are = h.records_are; over_is = refl; fit = h.fit }
      cases false false e = record { bytes_are = h.bytes_are; used_is = h.used_is; records_are = h.records_are; over_is = refl; fit = h.fit }
      cases false true e = record {
        bytes_are =
            ap (λ (l : List ℕ). pasted l s.load.used r) h.bytes_are
            ∙ ap (λ (n : ℕ). pasted (store_of size k.records) n r) h.used_is ∙ put_behind size k.records r;
        used_is = ap (λ (n : ℕ). n + length r) h.used_is ∙ sym (one_bytes k.records r);
        records_are = ap (λ (n : ℕ). n + 1) h.records_are ∙ sym (one_records k.records r);
        over_is = refl;
        fit = e;
      }

-- ---- ADDING RECORDS to a store that holds what is kept: it holds what is kept then

pub holds_all : (size : ℕ) (rs : List (List ℕ)) (k : Kept) (s : Stocked) → Holds size k s → Holds size (keep_all size k rs) (stock_all s rs)
unfolding keep_all stock_all
holds_all size [] k s h = h
holds_all size (r ∷ rs) k s h = holds_all size rs (keep_one size k r) (stock_one s r) (holds_one size k s h r)

-- ---- what is kept

record Good (network : ℕ) (rs : List (List ℕ)) : Type 0 where
  all : AllRecords rs
  taken_all : every (takes network) rs ≡ true

good_join : (network : ℕ) (a b : List (List ℕ)) → Good network a → Good network b → Good network (a ++ b)
good_join network a b g h = record { all = all_join record_in a b g.all h.all; taken_all = every_append (takes network) a b g.taken_all h.taken_all }

good_first : (network : ℕ) (r : List ℕ) (rs : List (List ℕ)) → Good network (r ∷ rs) → Good network (r ∷ [])
unfolding every
good_first network r rs g = record {
  all = (g.all.0, g.all.1, tt);
  taken_all = rw (and_left (takes network r) (every (takes network) rs) g.taken_all) refl;
}

good_rest : (network : ℕ) (r : List ℕ) (rs : List (List ℕ)) → Good network (r ∷ rs) → Good network rs
unfolding every
good_rest network r rs g = record { all = g.all.2; taken_all = and_right (takes network r) (every (takes network) rs) g.taken_all }

one_good : (network size : ℕ) (k : Kept) (r : List ℕ) → Good network k.records → Good network (r ∷ []) → Good network (keep_one size k r).records
unfolding keep_one
one_good network size k r g h = cases (k.over || not (fits size (k.records ++ (r ∷ []))))
  where
    cases : (t : Bool) → Good network (cond {A = Kept} t (record { records = k.records; over = true }) (record { records = k.records ++ (r ∷ []); over = false })).records
    cases true = g
    cases false = good_join network k.records (r ∷ []) g h

keep_good : (network size : ℕ) (rs : List (List ℕ)) (k : Kept) → Good network k.records → Good network rs → Good network (keep_all size k rs).records
unfolding keep_all
keep_good network size [] k g h = g
keep_good network size (r ∷ rs) k g h = keep_good network size rs (keep_one size k r) (one_good network size k r g (good_first network r rs h)) (good_rest network r rs h)

taken_good : (network : ℕ) (rs : List (List ℕ)) → AllRecords rs → Good network (taken network rs)
unfolding taken every
taken_good network [] a = record { all = tt; taken_all = refl }
taken_good network (r ∷ rs) a = cases (takes network r) refl (taken_good network rs a.2)
  where
    cases : (t : Bool) → takes network r ≡ t → Good network (taken network rs) → Good network (cond t (r ∷ taken network rs) (taken network rs))
    cases true e g = record { all = (a.0, a.1, g.all); taken_all = rw e g.taken_all }
    cases false e g = g

block_good : (network : ℕ) (block : List ℕ) → Good network (taken_of network block)
unfolding taken_of every
block_good network block = cases (good_block block)
  where
    cases : (t : Bool) → Good network (cond t (taken network (records_of block)) [])
    cases true = taken_good network (records_of block) (recs_all (drop 2 block))
    cases false = record { all = tt; taken_all = refl }

-- ---- ADDING A BLOCK to a sound store

module _ (network : ℕ) (load : Load) (block bytes : List ℕ) (sound : sound_store network load.used load.records bytes ≡ true) where
  -- the load's own records before it
  abbrev pub before : Kept
  before = record { records = recs (take load.used bytes); over = load.over }

  -- and after it
  abbrev pub after : Kept
  after = keep_all (length bytes) before (taken_of network block)

  begins : Holds (length bytes) before (both load bytes)
  begins =
      let s = sound_as network load.used load.records bytes sound in
      record { bytes_are = s.is; used_is = s.used_is; records_are = s.records_is; over_is = refl; fit = s.fit }

  module _ (r : Load) (bytes' : List ℕ) (adds : Adds network load block bytes r bytes') where
    -- the store holds what is kept
    pub add_keeps : Holds (length bytes) after (both r bytes')
    add_keeps =
        subst (λ (s : Stocked). Holds (length bytes) after s) (λ i. both (sym adds.load' i) (sym adds.store' i))
        (holds_all (length bytes) (taken_of network block) before (both load bytes) begins)

    add_size : length bytes' ≡ length bytes
    add_size = ap length add_keeps.bytes_are ∙ store_long (length bytes) after.records (fits_bytes (length bytes) after.records add_keeps.fit)

    -- and is sound
    pub add_sound_as : SoundAs network r.used r.records bytes' after.records
    add_sound_as =
        let s = sound_as network load.used load.records bytes sound in
        let g = keep_good network (length bytes) (taken_of network block) before (record { all = s.all; taken_all = s.taken_all }) (block_good network block) in
        record {
          is = add_keeps.bytes_are ∙ ap (λ (n : ℕ). store_of n after.records) (sym add_size);
          used_is = add_keeps.used_is;
          records_is = add_keeps.records_are;
          taken_all = g.taken_all;
          fit = ap (λ (n : ℕ). fits n after.records) add_size ∙ add_keeps.fit;
          all = g.all;
        }

    pub add_sound : sound_store network r.used r.records bytes' ≡ true
    add_sound = as_sound network r.used r.records bytes' after.records add_sound_as
