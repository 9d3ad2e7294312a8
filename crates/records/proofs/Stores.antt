-- A store is its records and zeros: there and back, and what a sound store is.
use mathlib.Core.Path.{◌≡◌, refl, sym, ap, ◌∙◌}
use mathlib.Core.Bool.{true, ◌&&◌}
use mathlib.Core.List.{List, [], ◌∷◌, ◌++◌, flatten}
use Prim.Native.Nat.{ℕ, zero, suc, ◌-◌, ◌≤◌}
use native.Mathlib.Omega.{arith}
use lib.ListN.{length, get_or, take, drop, length-append, length-drop, length-replicate, take-append-drop}
use lib.Seq.{take_at, drop_at, length-take-le}
use lib.Dec.{leb, eqb}
use borrow.Author.Tests.{leb-true, le-leb, eqb-true, eq-eqb}
use Rattle.answer.specs.Pieces.{rest, is_none, whole, every}
use Rattle.answer.proofs.Pieces.{none_true, flatten_pieces, pieces_flatten, rest_flatten}
use Rattle.records.specs.Record.{record_in, recs, takes}
use Rattle.records.specs.Store.{zeros, store_of, fits, all_zero, sound_store}
use Rattle.records.specs.Claims.{AllRecords, SoundAs, a}
use Rattle.answer.proofs.Parts.{and_left, and_right}
use Rattle.records.proofs.Records.{record_sizes, zero_none, recs_then, recs_all}
use Rattle.records.specs.Within.{record_le}

-- ---- zeros

pub zeros_none : (n : ℕ) → record_in (zeros n) ≡ 0
zeros_none n = zero_none (zeros n) (first n)
  where
    first : (k : ℕ) → get_or (zeros k) 0 0 ≡ 0
    first zero = refl
    first (suc k) = refl

pub zeros_are : (xs : List ℕ) → all_zero xs ≡ true → xs ≡ zeros (length xs)
unfolding all_zero
zeros_are [] e = refl
zeros_are (x ∷ xs) e =
    let h = eqb-true x 0 (and_left (eqb x 0) (all_zero xs) e) in
    ap (λ (n : ℕ). n ∷ xs) h ∙ ap (λ (l : List ℕ). 0 ∷ l) (zeros_are xs (and_right (eqb x 0) (all_zero xs) e))

pub zeros_all : (n : ℕ) → all_zero (zeros n) ≡ true
unfolding all_zero
zeros_all zero = refl
zeros_all (suc n) = zeros_all n

-- ---- the limits

pub fits_bytes : (size : ℕ) (rs : List (List ℕ)) → fits size rs ≡ true → length (flatten rs) ≤ size
unfolding fits
fits_bytes size rs e = leb-true (length (flatten rs)) size (and_left (leb (length (flatten rs)) size) (leb (length rs) 512) e)

pub fits_records : (size : ℕ) (rs : List (List ℕ)) → fits size rs ≡ true → length rs ≤ 512
unfolding fits
fits_records size rs e = leb-true (length rs) 512 (and_right (leb (length (flatten rs)) size) (leb (length rs) 512) e)

pub fits_both : (size : ℕ) (rs : List (List ℕ)) → length (flatten rs) ≤ size → length rs ≤ 512 → fits size rs ≡ true
unfolding fits
fits_both size rs h k = rw (le-leb (length (flatten rs)) size h, le-leb (length rs) 512 k) refl

-- ---- the store of some records

module _ (size : ℕ) (rs : List (List ℕ)) where
  -- it holds these records and no other
  pub recs_store : AllRecords rs → recs (store_of size rs) ≡ rs
  unfolding store_of
  recs_store a = recs_then (zeros (size - length (flatten rs))) (zeros_none (size - length (flatten rs))) rs a

  pub front_store : take (length (flatten rs)) (store_of size rs) ≡ flatten rs
  unfolding store_of
  front_store = take_at (flatten rs) (zeros (size - length (flatten rs))) (length (flatten rs)) refl

  pub back_store : drop (length (flatten rs)) (store_of size rs) ≡ zeros (size - length (flatten rs))
  unfolding store_of
  back_store = drop_at (flatten rs) (zeros (size - length (flatten rs))) (length (flatten rs)) refl

  -- it has its size where they fit
  pub store_long : length (flatten rs) ≤ size → length (store_of size rs) ≡ size
  unfolding store_of
  store_long h = simp (length-append, length-replicate) (omega arith)

-- a store with no record
pub store_none : (size : ℕ) → store_of size [] ≡ zeros size
unfolding store_of flatten
store_none size = let e : size - 0 ≡ size = omega arith in ap zeros e

-- ---- A SOUND STORE holds records that a load for the network takes, which fit, and is told right

module _ (network used records : ℕ) (bytes : List ℕ) where
  pub sound_as : sound_store network used records bytes ≡ true → SoundAs network used records bytes (recs (take used bytes))
  unfolding sound_store store_of
  sound_as e =
      let rs = recs (take used bytes) in
      let b2 = whole record_in (take used bytes) in
      let b3 = eqb (length rs) records in
      let b4 = leb records 512 in
      let b5 = every (takes network) rs in
      let b6 = all_zero (drop used bytes) in
      let h1 = leb-true used (length bytes) (and_left (leb used (length bytes)) (b2 && (b3 && (b4 && (b5 && b6)))) e) in
      let e2 = and_right (leb used (length bytes)) (b2 && (b3 && (b4 && (b5 && b6)))) e in
      let e3 = and_right b2 (b3 && (b4 && (b5 && b6))) e2 in
      let e4 = and_right b3 (b4 && (b5 && b6)) e3 in
      let e5 = and_right b4 (b5 && b6) e4 in
      let f : flatten rs ≡ take used bytes = flatten_pieces record_in record_le (take used bytes) (none_true (rest record_in (take used bytes)) (and_left b2 (b3 && (b4 && (b5 && b6))) e2)) in
      let l : used ≡ length (flatten rs) = sym (ap length f ∙ length-take-le used bytes h1) in
      let k : records ≡ length rs = sym (eqb-true (length rs) records (and_left b3 (b4 && (b5 && b6)) e3)) in
      let m = leb-true records 512 (and_left b4 (b5 && b6) e4) in
      let z : drop used bytes ≡ zeros (length bytes - length (flatten rs)) =
      zeros_are (drop used bytes) (and_right b5 b6 e5) ∙ ap zeros (length-drop used bytes ∙ ap (λ (n : ℕ). length bytes - n) l) in
      record {
        is = sym (take-append-drop used bytes) ∙ ap (λ (x : List ℕ). x ++ drop used bytes) (sym f) ∙ ap (λ (x : List ℕ). flatten rs ++ x) z;
        used_is = l;
        records_is = k;
        taken_all = and_left b5 b6 e5;
        fit = fits_both (length bytes) rs (omega (arith, l)) (omega (arith, k));
        all = recs_all (take used bytes);
      }

  module _ (rs : List (List ℕ)) (s : SoundAs network used records bytes rs) where
    pub used_part : take used bytes ≡ flatten rs
    used_part = ap (take used) s.is ∙ ap (λ (n : ℕ). take n (store_of (length bytes) rs)) s.used_is ∙ front_store (length bytes) rs

    pub zero_part : drop used bytes ≡ zeros (length bytes - length (flatten rs))
    zero_part = ap (drop used) s.is ∙ ap (λ (n : ℕ). drop n (store_of (length bytes) rs)) s.used_is ∙ back_store (length bytes) rs

    -- its records are these
    pub sound_recs : recs (take used bytes) ≡ rs
    sound_recs = ap recs used_part ∙ pieces_flatten record_in record_sizes rs s.all

    pub as_sound : sound_store network used records bytes ≡ true
    unfolding sound_store
    as_sound =
        let b = fits_bytes (length bytes) rs s.fit in
        let n = fits_records (length bytes) rs s.fit in
        let w : whole record_in (take used bytes) ≡ true = ap (λ (x : List ℕ). is_none (rest record_in x)) used_part ∙ ap is_none (rest_flatten record_in record_sizes rs s.all) in
        let c : eqb (length (recs (take used bytes))) records ≡ true = eq-eqb (length (recs (take used bytes))) records (ap length sound_recs ∙ sym s.records_is) in
        let t : every (takes network) (recs (take used bytes)) ≡ true = ap (every (takes network)) sound_recs ∙ s.taken_all in
        let z : all_zero (drop used bytes) ≡ true = ap all_zero zero_part ∙ zeros_all (length bytes - length (flatten rs)) in
        rw (le-leb used (length bytes) (omega (arith, s.used_is)), w, c, le-leb records 512 (omega (arith, s.records_is)), t, z) refl

  -- both ways, for the records that the used bytes are
  pub sound_is : (sound_store network used records bytes ≡ true → SoundAs network used records bytes (recs (take used bytes)))
      × (SoundAs network used records bytes (recs (take used bytes)) → sound_store network used records bytes ≡ true)
  sound_is = (sound_as, as_sound (recs (take used bytes)))

-- a store of zeros is sound, for any network
pub none_sound : (network size : ℕ) → SoundAs network 0 0 (zeros size) []
unfolding every flatten
none_sound network size = record {
  is = sym (ap (λ (n : ℕ). store_of n []) (length-replicate size 0) ∙ store_none size);
  used_is = refl;
  records_is = refl;
  taken_all = refl;
  fit = fits_both (length (zeros size)) [] (omega arith) (omega arith);
  all = tt;
}

pub zeros_sound : (network size : ℕ) → sound_store network 0 0 (zeros size) ≡ true
zeros_sound network size = as_sound network 0 0 (zeros size) [] (none_sound network size)
