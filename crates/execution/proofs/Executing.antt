-- What the promises say of bytes is what the commands do and are answered, on sound tables.
use mathlib.Core.Path.{◌≡◌, refl, sym, ap, ◌∙◌}
use mathlib.Core.Bool.{Bool, true, false, not, ◌&&◌, cond}
use mathlib.Core.List.{List, [], ◌++◌, flatten}
use Prim.Native.Nat.{ℕ, zero, suc, ◌+◌, ◌-◌, ◌*◌, ◌≤◌}
use native.Mathlib.Omega.{arith}
use lib.ListN.{length, take, drop, replicate, length-append, length-take, length-replicate}
use lib.Dec.{ltb}
use Rattle.answer.specs.Pieces.{every}
use Rattle.answer.proofs.Parts.{and_left, and_right, flatten_append}
use Rattle.records.specs.Record.{recs, good_block, records_of}
use Rattle.records.specs.Store.{zeros, store_of, fits, sound_store}
use Rattle.records.proofs.Stores.{sound_as, used_part, fits_both, store_none}
use Rattle.tables.specs.Loading.{taken, Kept, Stocked, stock_all}
use Rattle.tables.specs.Closing.{not_named, new_set, new_bytes, new_records, new_version, new_versions, version_of}
use Rattle.tables.specs.Claims.{Holds}
use Rattle.tables.proofs.Loads.{holds_all}
use Rattle.tables.proofs.NewSets.{closes_is}
use Rattle.command.specs.declared.Command.{Command}
use Rattle.command.specs.declared.Command.TheVariants.{Opn, Gts, GtsWrong, Tli, TliWrong, Tlr, TlrWrong, Tle, Unknown}
use Rattle.command.specs.Texts.{ascii, all_text}
use Rattle.command.specs.Command.{command_of}
use Rattle.execution.specs.declared.OpenLoad.{OpenLoad}
use Rattle.execution.specs.Core.{Opening, with_load, fresh_core}
use Rattle.execution.specs.Core.Opening.{none}
use Rattle.execution.specs.CommandTable.{version_in, block_in, same, response_to}
use Rattle.execution.specs.Execute.{opened_for, fed, accepts, ended, execute_as, execute, is_open, response_of}
use Rattle.execution.specs.Stored.{Stored, kept_in, opening_in, core_of, no_load, open_load_of, loading_bytes, stored_of, open_sound, answered_sound, sound_tables}
use Rattle.execution.specs.Promise.{tables_with, new_load, opened_in, grown, fed_in, accepted_in, new_bytes_in, replaced_in, dropped_in, ended_in, executed_as, executed, responded}
use Rattle.execution.specs.Claims.{Sized, LegalCore}
use Rattle.execution.proofs.Asked.{tlr_block, taken_is}
use Rattle.execution.proofs.Between.{store_is, live_good, load_good, load_there, stored_back}

-- ---- a load in the place of another

module _ (s : Stored) (sized : Sized s) (sound : sound_tables s ≡ true) where
  abbrev load_as : OpenLoad → List ℕ → Stored
  load_as l bytes = record { tables = tables_with s.tables l; live = s.live; loading = bytes }

  with_load_lem : (o : Opening) (l : OpenLoad) (bytes : List ℕ) → open_load_of o ≡ l → loading_bytes o ≡ bytes → load_as l bytes ≡ stored_of (with_load (core_of s) o)
  unfolding stored_of core_of
  with_load_lem o l bytes e f =
      let a = sound_as 0 s.tables.live.used s.tables.live.records s.live (live_good s sized sound) in
      let b = store_is 0 s.tables.live.used s.tables.live.records s.live sized.live_long (live_good s sized sound) in
      λ i. record {
        tables = record { versions = s.tables.versions; live = record { used = a.used_is i; records = a.records_is i }; load = sym e i };
        live = sym b i;
        loading = sym f i;
      }

  -- DROPPING A LOAD leaves the bytes of the core without it
  pub dropped_is : dropped_in s ≡ stored_of (with_load (core_of s) none)
  dropped_is = with_load_lem none no_load (zeros (length s.loading)) refl (ap zeros (sym sized.loading_long))

  -- with nothing open the tables are those of the core with no load
  none_is : s.tables.load.opened ≡ false → s ≡ stored_of (with_load (core_of s) none)
  none_is o =
      let b = load_there s sized sound false o in
      with_load_lem none s.tables.load s.loading b.load_is b.bytes_are

  -- TLI opens the same load in both
  opened_is : (n : ℕ) (v : List ℕ) → opened_in n v s ≡ stored_of (with_load (core_of s) (opened_for n v))
  unfolding flatten
  opened_is n v = with_load_lem (opened_for n v) (new_load n v) (zeros (length s.loading)) refl (store_none 32768 ∙ ap zeros (sym sized.loading_long))

  -- ---- in an open load

  module _ (o : s.tables.load.opened ≡ true) where
    abbrev opening : Opening
    opening = opening_in true s.tables.load s.loading

    abbrev kept : Kept
    kept = kept_in s.tables.load.kept s.loading

    -- its store is sound
    kept_good : sound_store s.tables.load.network s.tables.load.kept.used s.tables.load.kept.records s.loading ≡ true
    unfolding open_sound
    kept_good =
        let l = s.tables.load in
        let b2 = all_text l.version in
        let b3 = sound_store l.network l.kept.used l.kept.records s.loading in
        let b4 = answered_sound l in
        and_left b3 b4 (and_right b2 (b3 && b4) (and_right (ltb l.network 100) (b2 && (b3 && b4)) (load_good s sized sound true o)))

    -- and holds what is kept
    kept_held : Holds 32768 kept (record { load = s.tables.load.kept; bytes = s.loading })
    kept_held =
        let l = s.tables.load in
        let a = sound_as l.network l.kept.used l.kept.records s.loading kept_good in
        record {
          bytes_are = a.is ∙ ap (λ (n : ℕ). store_of n kept.records) sized.loading_long;
          used_is = a.used_is;
          records_are = a.records_is;
          over_is = refl;
          fit = ap (λ (n : ℕ). fits n kept.records) (sym sized.loading_long) ∙ a.fit;
        }

    -- its store with more records
    abbrev added : List (List ℕ) → Stocked
    added rs = stock_all (record { load = s.tables.load.kept; bytes = s.loading }) rs

    -- TLR: what a good block adds is the same in both
    fed_is : (block : List ℕ) → good_block block ≡ true → fed_in block s ≡ stored_of (with_load (core_of s) (fed opening block))
    unfolding fed
    fed_is block g =
        let l = s.tables.load in
        let rs = taken l.network (records_of block) in
        let h = holds_all 32768 rs kept (record { load = l.kept; bytes = s.loading }) kept_held in
        ap (λ (xs : List (List ℕ)). load_as (grown l (added xs).load) (added xs).bytes) (taken_is l.network block g)
        ∙ with_load_lem (fed opening block) (grown l (added rs).load) (added rs).bytes
        (λ i. record {
          opened = true;
          network = l.network;
          version = l.version;
          kept = record { used = sym h.used_is i; records = sym h.records_are i; over = sym h.over_is i };
          any = true;
        })
        (sym h.bytes_are)

    -- TLE: the new set
    abbrev new : List (List ℕ)
    new = new_set s.tables.load.network (recs (take s.tables.live.used s.live)) kept.records

    new_bytes_lem : new_bytes_in s ≡ flatten new
    unfolding new_bytes new_set
    new_bytes_lem =
        let l = s.tables.load in
        let stay = not_named l.network (recs (take s.tables.live.used s.live)) in
        let a = sound_as l.network l.kept.used l.kept.records s.loading kept_good in
        ap (λ (x : List ℕ). flatten stay ++ x) (used_part l.network l.kept.used l.kept.records s.loading kept.records a)
        ∙ sym (flatten_append stay kept.records)

    new_records_lem : new_records s.tables.load.network s.tables.live s.live s.tables.load.kept ≡ length new
    unfolding new_records new_set
    new_records_lem =
        let l = s.tables.load in
        let stay = not_named l.network (recs (take s.tables.live.used s.live)) in
        ap (λ (n : ℕ). length stay + n) kept_held.records_are ∙ sym (length-append stay kept.records)

    -- it is accepted in both alike
    accepted_is : accepted_in s ≡ accepts (core_of s) opening
    unfolding accepted_in accepts core_of
    accepted_is =
        closes_is s.tables.load.network s.tables.live s.live s.tables.load.kept s.loading (live_good s sized sound) kept_good
        ∙ ap (λ (n : ℕ). not s.tables.load.kept.over && fits n new) sized.live_long

    -- the new set takes the live one's place
    replaced_is : replaced_in s ≡ stored_of (record {
      records = new;
      versions = new_versions s.tables.load.network (new_version s.tables.load.any s.tables.load.version) s.tables.versions;
      load = none;
    })
    unfolding stored_of store_of
    replaced_is =
        let l = s.tables.load in
        let live_is : new_bytes_in s ++ zeros (length s.live - length (new_bytes_in s)) ≡ flatten new ++ zeros (32768 - length (flatten new)) =
        rw (new_bytes_lem, sized.live_long) refl in
        let loading_is : zeros (length s.loading) ≡ zeros 32768 = ap zeros sized.loading_long in
        λ i. record {
          tables = record {
            versions = new_versions l.network (new_version l.any l.version) s.tables.versions;
            live = record { used = length (new_bytes_lem i); records = new_records_lem i };
            load = no_load;
          };
          live = live_is i;
          loading = loading_is i;
        }

    -- TLE: the load is closed in both alike
    ended_is : ended_in s ≡ stored_of (ended (core_of s) opening)
    unfolding ended core_of
    ended_is = rw accepted_is (cases (accepts (core_of s) opening))
      where
        cases : (t : Bool) → cond t (replaced_in s) (dropped_in s) ≡ stored_of (cond t
            (record {
              records = new;
              versions = new_versions s.tables.load.network (new_version s.tables.load.any s.tables.load.version) s.tables.versions;
              load = none;
            })
            (with_load (core_of s) none))
        cases true = replaced_is
        cases false = dropped_is

  -- ---- WHAT A PAYLOAD DOES

  tlr_is : (t : Bool) → s.tables.load.opened ≡ t → (block : List ℕ) → good_block block ≡ true
      → cond t (fed_in block s) s ≡ stored_of (with_load (core_of s) (fed (opening_in t s.tables.load s.loading) block))
  unfolding fed
  tlr_is true o block g = fed_is o block g
  tlr_is false o block g = none_is o

  tle_is : (t : Bool) → s.tables.load.opened ≡ t → cond t (ended_in s) s ≡ stored_of (ended (core_of s) (opening_in t s.tables.load s.loading))
  unfolding ended
  tle_is true o = ended_is o
  tle_is false o = sym (stored_back s sized sound)

  executed_as_lem : (p : List ℕ) (c : Command) → command_of p ≡ c → executed_as c p s ≡ stored_of (execute_as c (core_of s) p)
  unfolding core_of
  executed_as_lem p Opn e = sym (stored_back s sized sound)
  executed_as_lem p (Gts n) e = sym (stored_back s sized sound)
  executed_as_lem p GtsWrong e = sym (stored_back s sized sound)
  executed_as_lem p (Tli n) e = opened_is n (version_in p)
  executed_as_lem p TliWrong e = sym (stored_back s sized sound)
  executed_as_lem p Tlr e = tlr_is s.tables.load.opened refl (block_in p) (tlr_block p e)
  executed_as_lem p TlrWrong e = sym (stored_back s sized sound)
  executed_as_lem p Tle e = tle_is s.tables.load.opened refl
  executed_as_lem p Unknown e = sym (stored_back s sized sound)

-- on sound tables the promise is that of the core
pub executed_is : (p : List ℕ) (s : Stored) → Sized s → sound_tables s ≡ true → executed p s ≡ stored_of (execute (core_of s) p)
unfolding executed execute
executed_is p s sized sound = executed_as_lem s sized sound p (command_of p) refl

-- ---- WHAT IT IS ANSWERED

-- outside a load no response hangs on whether the new set is within the limits
outside : (c : Command) (p v : List ℕ) (a b : Bool) → response_to c p v false a ≡ response_to c p v false b
unfolding response_to
outside Opn p v a b = refl
outside (Gts n) p v a b = refl
outside GtsWrong p v a b = refl
outside (Tli n) p v a b = refl
outside TliWrong p v a b = refl
outside Tlr p v a b = refl
outside TlrWrong p v a b = refl
outside Tle p v a b = refl
outside Unknown p v a b = refl

responded_as : (p : List ℕ) (s : Stored) (sized : Sized s) (sound : sound_tables s ≡ true) (t : Bool) → s.tables.load.opened ≡ t
    → response_to (command_of p) p s.tables.versions t (accepted_in s)
    ≡ response_to (command_of p) p s.tables.versions (is_open (opening_in t s.tables.load s.loading)) (accepts (core_of s) (opening_in t s.tables.load s.loading))
responded_as p s sized sound true o = ap (λ (a : Bool). response_to (command_of p) p s.tables.versions true a) (accepted_is s sized sound o)
responded_as p s sized sound false o = outside (command_of p) p s.tables.versions (accepted_in s) (accepts (core_of s) none)

-- on sound tables the response is that of the core
pub responded_is : (p : List ℕ) (s : Stored) → Sized s → sound_tables s ≡ true → responded p s ≡ response_of (core_of s) p
unfolding responded response_of core_of
responded_is p s sized sound = responded_as p s sized sound s.tables.load.opened refl

-- ---- how long a response is

record Short (r : List ℕ) : Type 0 where
  short : length r ≤ 19
  some : 1 ≤ length r

six : (r : List ℕ) → length r ≡ 6 → Short r
six r e = record { short = omega arith; some = omega arith }

six_either : (t : Bool) (a b : List ℕ) → Short a → Short b → Short (cond t a b)
six_either true a b f g = f
six_either false a b f g = g

version_short : (v : List ℕ) → Short (ascii "GTS000010" ++ take 10 v)
version_short v =
    let n : length (take 10 v) ≤ 10 = simp length-take (omega arith) in
    let e = length-append (ascii "GTS000010") (take 10 v) in
    record { short = omega arith; some = omega arith }

response_short : (c : Command) (p versions : List ℕ) (inLoad accepted : Bool) → Short (response_to c p versions inLoad accepted)
unfolding response_to
response_short Opn p v a b = six (ascii "OPN000") refl
response_short (Gts n) p v a b = version_short (drop (n * 10) v)
response_short GtsWrong p v a b = six (ascii "GTS011") refl
response_short (Tli n) p v a b = six_either (same (version_in p) (version_of n v)) (ascii "TLI000") (ascii "TLI020") (six _ refl) (six _ refl)
response_short TliWrong p v a b = six (ascii "TLI011") refl
response_short Tlr p v a b = six_either a (ascii "TLR000") (ascii "TLR010") (six _ refl) (six _ refl)
response_short TlrWrong p v a b = six_either a (ascii "TLR011") (ascii "TLR010") (six _ refl) (six _ refl)
response_short Tle p v a b =
    six_either a (cond b (ascii "TLE000") (ascii "TLE021")) (ascii "TLE010") (six_either b (ascii "TLE000") (ascii "TLE021") (six _ refl) (six _ refl)) (six _ refl)
response_short Unknown p v a b = six (ascii "ERR010") refl

-- a response has 19 bytes at most
pub responded_short : (p : List ℕ) (s : Stored) → length (responded p s) ≤ 19
unfolding responded
responded_short p s = (response_short (command_of p) p s.tables.versions s.tables.load.opened (accepted_in s)).short

-- and one at least
pub responded_some : (p : List ℕ) (s : Stored) → 1 ≤ length (responded p s)
unfolding responded
responded_some p s = (response_short (command_of p) p s.tables.versions s.tables.load.opened (accepted_in s)).some

-- ---- A FRESH DEVICE

-- "0" bytes, however many, are text
pub text_zeros : (n : ℕ) → all_text (replicate n 0x30) ≡ true
unfolding all_text
text_zeros zero = refl
text_zeros (suc n) = text_zeros n

-- a fresh device's core can be
pub fresh_legal : LegalCore fresh_core
unfolding fresh_core every flatten
fresh_legal = record {
  live_fine = record { all = tt; taken_all = refl; fit = fits_both 32768 [] (omega arith) (omega arith) };
  versions_long = length-replicate {A = ℕ} 1000 0x30;
  versions_text = text_zeros 1000;
  load_legal = tt;
}
