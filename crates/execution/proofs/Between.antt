-- Both ways between the bytes and what they say: sound tables are those of a core that can be, and such a core has sound tables.
use mathlib.Core.Path.{◌≡◌, refl, sym, ap, ◌∙◌}
use mathlib.Core.Bool.{Bool, true, false, not, ◌&&◌, ◌||◌, cond, false≢true}
use mathlib.Core.List.{List, [], ◌∷◌, flatten}
use Prim.Native.Nat.{ℕ}
use native.Mathlib.Omega.{arith}
use lib.ListN.{length, take, length-replicate}
use lib.Dec.{ltb, eqb}
use borrow.Author.Tests.{ltb-true, lt-ltb, eqb-true, not-true}
use Rattle.answer.proofs.Parts.{and_left, and_right}
use Rattle.answer.proofs.Pieces.{pieces_flatten}
use Rattle.records.specs.Record.{record_in, recs}
use Rattle.records.specs.Store.{zeros, store_of, fits, all_zero, sound_store}
use Rattle.records.proofs.Records.{record_sizes}
use Rattle.records.proofs.Stores.{sound_as, as_sound, fits_bytes, front_store, store_long, zeros_are, zeros_all}
use Rattle.command.specs.Texts.{all_text}
use Rattle.execution.specs.declared.OpenLoad.{OpenLoad}
use Rattle.execution.specs.Core.{Opening, Core}
use Rattle.execution.specs.Core.Opening.{none, some}
use Rattle.execution.specs.Stored.{Stored, opening_in, core_of, open_load_of, loading_bytes, stored_of, answered_sound, open_sound, closed_sound, load_sound, live_sound, versions_sound, sound_tables}
use Rattle.execution.specs.Claims.{Sized, Fine, LegalOpening, LegalCore}

-- ---- one store

module _ (network used records : ℕ) (bytes : List ℕ) (long : length bytes ≡ 32768) (sound : sound_store network used records bytes ≡ true) where
  -- a sound store is that of its records
  pub store_is : store_of 32768 (recs (take used bytes)) ≡ bytes
  store_is = sym ((sound_as network used records bytes sound).is ∙ ap (λ (n : ℕ). store_of n (recs (take used bytes))) long)

  -- and its records can be
  store_fine : Fine network (recs (take used bytes))
  store_fine =
      let s = sound_as network used records bytes sound in
      record { all = s.all; taken_all = s.taken_all; fit = sym (ap (λ (n : ℕ). fits n (recs (take used bytes))) long) ∙ s.fit }

module _ (network : ℕ) (rs : List (List ℕ)) (f : Fine network rs) where
  -- the store of such records has its size
  pub fine_long : length (store_of 32768 rs) ≡ 32768
  fine_long = store_long 32768 rs (fits_bytes 32768 rs f.fit)

  -- holds them and no other
  pub fine_back : recs (take (length (flatten rs)) (store_of 32768 rs)) ≡ rs
  fine_back = ap recs (front_store 32768 rs) ∙ pieces_flatten record_in record_sizes rs f.all

  -- and is sound
  pub fine_sound : sound_store network (length (flatten rs)) (length rs) (store_of 32768 rs) ≡ true
  fine_sound =
      as_sound network (length (flatten rs)) (length rs) (store_of 32768 rs) rs
      (record {
        is = ap (λ (n : ℕ). store_of n rs) (sym fine_long);
        used_is = refl;
        records_is = refl;
        taken_all = f.taken_all;
        fit = ap (λ (n : ℕ). fits n rs) fine_long ∙ f.fit;
        all = f.all;
      })

-- ---- the open load, from its bytes

-- an opening that can be, whose fields and bytes are these
pub record LoadBack (l : OpenLoad) (bytes : List ℕ) (o : Opening) : Type 0 where
  pub load_is : open_load_of o ≡ l
  pub bytes_are : loading_bytes o ≡ bytes
  pub legal : LegalOpening o

none_kept : (rs : List (List ℕ)) → length rs ≡ 0 → rs ≡ []
none_kept [] e = refl
none_kept (r ∷ rs) e = absurd (omega arith)

none_answered : (any over empty : Bool) → (any || (not over && empty)) ≡ true → any ≡ false → (over ≡ false) × (empty ≡ true)
none_answered true over empty e f = absurd (false≢true (sym f))
none_answered false over empty e f = (not-true over (and_left (not over) empty e), and_right (not over) empty e)

module _ (l : OpenLoad) (bytes : List ℕ) (ten : length l.version ≡ 10) (long : length bytes ≡ 32768) where
  closed_back : l.opened ≡ false → closed_sound l bytes ≡ true → LoadBack l bytes none
  unfolding closed_sound
  closed_back o e =
      let b1 = eqb l.network 0 in
      let b2 = all_zero l.version in
      let b3 = eqb l.kept.used 0 in
      let b4 = eqb l.kept.records 0 in
      let b5 = not l.kept.over in
      let b6 = not l.any in
      let b7 = all_zero bytes in
      let e2 = and_right b1 (b2 && (b3 && (b4 && (b5 && (b6 && b7))))) e in
      let e3 = and_right b2 (b3 && (b4 && (b5 && (b6 && b7)))) e2 in
      let e4 = and_right b3 (b4 && (b5 && (b6 && b7))) e3 in
      let e5 = and_right b4 (b5 && (b6 && b7)) e4 in
      let e6 = and_right b5 (b6 && b7) e5 in
      let network_is = eqb-true l.network 0 (and_left b1 (b2 && (b3 && (b4 && (b5 && (b6 && b7))))) e) in
      let version_is : l.version ≡ zeros 10 = zeros_are l.version (and_left b2 (b3 && (b4 && (b5 && (b6 && b7)))) e2) ∙ ap zeros ten in
      let used_is = eqb-true l.kept.used 0 (and_left b3 (b4 && (b5 && (b6 && b7))) e3) in
      let records_is = eqb-true l.kept.records 0 (and_left b4 (b5 && (b6 && b7)) e4) in
      let over_is = not-true l.kept.over (and_left b5 (b6 && b7) e5) in
      let any-is = not-true l.any (and_left b6 b7 e6) in
      record {
        load_is = λ i. record {
          opened = sym o i;
          network = sym network_is i;
          version = sym version_is i;
          kept = record { used = sym used_is i; records = sym records_is i; over = sym over_is i };
          any = sym any-is i;
        };
        bytes_are = sym (zeros_are bytes (and_right b6 b7 e6) ∙ ap zeros long);
        legal = tt;
      }

  open_back : l.opened ≡ true → open_sound l bytes ≡ true → LoadBack l bytes (opening_in true l bytes)
  unfolding open_sound
  open_back o e =
      let b1 = ltb l.network 100 in
      let b2 = all_text l.version in
      let b3 = sound_store l.network l.kept.used l.kept.records bytes in
      let b4 = answered_sound l in
      let e2 = and_right b1 (b2 && (b3 && b4)) e in
      let e3 = and_right b2 (b3 && b4) e2 in
      let sound = and_left b3 b4 e3 in
      let s = sound_as l.network l.kept.used l.kept.records bytes sound in
      record {
        load_is = λ i. record {
          opened = sym o i;
          network = l.network;
          version = l.version;
          kept = record { used = sym s.used_is i; records = sym s.records_is i; over = l.kept.over };
          any = l.any;
        };
        bytes_are = store_is l.network l.kept.used l.kept.records bytes long sound;
        legal = record {
          network_low = ltb-true l.network 100 (and_left b1 (b2 && (b3 && b4)) e);
          version_long = ten;
          version_text = and_left b2 (b3 && b4) e2;
          kept_fine = store_fine l.network l.kept.used l.kept.records bytes long sound;
          answered = λ f.
              let n = none_answered l.any l.kept.over (eqb l.kept.records 0) (and_right b3 b4 e3) f in
              (n.0, none_kept (recs (take l.kept.used bytes)) (sym s.records_is ∙ eqb-true l.kept.records 0 n.1));
        };
      }

  load_back : (t : Bool) → l.opened ≡ t → cond t (open_sound l bytes) (closed_sound l bytes) ≡ true → LoadBack l bytes (opening_in t l bytes)
  load_back true o e = open_back o e
  load_back false o e = closed_back o e

-- ---- FROM THE BYTES: sound tables

module _ (s : Stored) (sized : Sized s) (sound : sound_tables s ≡ true) where
  -- the clauses of soundness one by one
  versions_good : versions_sound s ≡ true
  unfolding sound_tables
  versions_good = and_left (versions_sound s) (live_sound s && load_sound s) sound

  -- the live store is sound
  pub live_good : live_sound s ≡ true
  unfolding sound_tables
  live_good = and_left (live_sound s) (load_sound s) (and_right (versions_sound s) (live_sound s && load_sound s) sound)

  -- the open load is, or with none open all is 0
  pub load_good : (t : Bool) → s.tables.load.opened ≡ t → cond t (open_sound s.tables.load s.loading) (closed_sound s.tables.load s.loading) ≡ true
  unfolding sound_tables
  load_good t o =
      ap (λ (b : Bool). cond b (open_sound s.tables.load s.loading) (closed_sound s.tables.load s.loading)) (sym o)
      ∙ and_right (live_sound s) (load_sound s) (and_right (versions_sound s) (live_sound s && load_sound s) sound)

  -- the open load that they say has these fields and these bytes, and can be
  pub load_there : (t : Bool) → s.tables.load.opened ≡ t → LoadBack s.tables.load s.loading (opening_in t s.tables.load s.loading)
  load_there t o = load_back s.tables.load s.loading sized.version_long sized.loading_long t o (load_good t o)

  -- sound tables are those of the core that they say
  pub stored_back : stored_of (core_of s) ≡ s
  unfolding stored_of core_of
  stored_back =
      let a = sound_as 0 s.tables.live.used s.tables.live.records s.live live_good in
      let b = store_is 0 s.tables.live.used s.tables.live.records s.live sized.live_long live_good in
      let l = load_there s.tables.load.opened refl in
      λ i. record {
        tables = record {
          versions = s.tables.versions;
          live = record { used = sym a.used_is i; records = sym a.records_is i };
          load = l.load_is i;
        };
        live = b i;
        loading = l.bytes_are i;
      }

  -- and that core can be
  pub sound_legal : LegalCore (core_of s)
  unfolding core_of
  sound_legal = record {
    live_fine = store_fine 0 s.tables.live.used s.tables.live.records s.live sized.live_long live_good;
    versions_long = sized.versions_long;
    versions_text = versions_good;
    load_legal = (load_there s.tables.load.opened refl).legal;
  }

-- ---- TO THE BYTES: a core that can be

opening_back : (o : Opening) → LegalOpening o → opening_in (open_load_of o).opened (open_load_of o) (loading_bytes o) ≡ o
opening_back none h = refl
opening_back (some l) h =
    ap (λ (rs : List (List ℕ)). some (record { network = l.network; version = l.version; kept = record { records = rs; over = l.kept.over }; any = l.any }))
    (fine_back l.network l.kept.records h.kept_fine)

version_ten : (o : Opening) → LegalOpening o → length (open_load_of o).version ≡ 10
version_ten none h = length-replicate {A = ℕ} 10 0
version_ten (some l) h = h.version_long

bytes_long : (o : Opening) → LegalOpening o → length (loading_bytes o) ≡ 32768
bytes_long none h = length-replicate {A = ℕ} 32768 0
bytes_long (some l) h = fine_long l.network l.kept.records h.kept_fine

opening_sound : (o : Opening) → LegalOpening o
    → cond (open_load_of o).opened (open_sound (open_load_of o) (loading_bytes o)) (closed_sound (open_load_of o) (loading_bytes o)) ≡ true
unfolding open_sound closed_sound
opening_sound none h = rw (zeros_all 10, zeros_all 32768) refl
opening_sound (some l) h =
    rw (lt-ltb l.network 100 h.network_low, h.version_text, fine_sound l.network l.kept.records h.kept_fine) (cases l.any refl)
  where
    cases : (t : Bool) → l.any ≡ t → (t || (not l.kept.over && eqb (length l.kept.records) 0)) ≡ true
    cases true e = refl
    cases false e = let a = h.answered e in rw (a.0, a.1) refl

module _ (c : Core) (g : LegalCore c) where
  -- the core that its tables say is itself
  pub core_back : core_of (stored_of c) ≡ c
  unfolding stored_of core_of
  core_back =
      let a = fine_back 0 c.records g.live_fine in
      let b = opening_back c.load g.load_legal in
      λ i. record { records = a i; versions = c.versions; load = b i }

  -- its arrays and stores have their sizes
  pub legal_sized : Sized (stored_of c)
  unfolding stored_of
  legal_sized = record {
    versions_long = g.versions_long;
    version_long = version_ten c.load g.load_legal;
    live_long = fine_long 0 c.records g.live_fine;
    loading_long = bytes_long c.load g.load_legal;
  }

  -- and its tables are sound
  pub legal_sound : sound_tables (stored_of c) ≡ true
  unfolding sound_tables stored_of
  legal_sound = rw (g.versions_text, fine_sound 0 c.records g.live_fine) (opening_sound c.load g.load_legal)
