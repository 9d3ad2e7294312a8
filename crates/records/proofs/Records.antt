-- The laws of records: the size of one is told by its own bytes, is 8 at least, and a zero byte starts none; its kind and network are told with it.
use mathlib.Core.Path.{◌≡◌, refl, sym, ap, ◌∙◌}
use mathlib.Core.Bool.{Bool, true, false, ◌&&◌, cond, true≢false, false≢true}
use mathlib.Core.List.{List, [], ◌∷◌, ◌++◌, flatten, append_assoc}
use Prim.Native.Nat.{ℕ, zero, suc, ◌-◌, ◌≤◌, ◌<◌}
use native.Mathlib.Omega.{arith}
use lib.ListN.{length, get_or, take, drop, length-append, length-drop, get_or-append}
use lib.Seq.{length-take-le, get_or-take, get_or-drop, take_at, drop_at}
use lib.Dec.{leb}
use borrow.Author.Tests.{le-leb, lt-leb, leb-true}
use Rattle.std.specs.Prelude.{Option, Some, None}
use Rattle.std.specs.Bool.{then_some}
use Rattle.answer.specs.Digits.{is_digit, two_digits_at, three_at, two_in, three_in}
use Rattle.answer.specs.Pieces.{found}
use Rattle.answer.proofs.Pieces.{Sizes, all_pieces, pieces_cons, pieces_stop}
use Rattle.records.specs.declared.record.Record.{Record}
use Rattle.records.specs.Record.{length_good, network_good, index_good, starts_record, record_in, record_as, found_in, recs, names_as, is_named}
use Rattle.records.specs.Within.{record_le}
use Rattle.records.specs.Claims.{AllRecords, a, b}
use Rattle.answer.proofs.Parts.{and_left, and_right, and_false, rest_part}
use Rattle.answer.proofs.Found.{found_none}

-- ---- the size of a record, by the tests that the code makes

module _ (xs : List ℕ) where
  pub record_by : (n : ℕ) (g w i t : Bool) → 8 ≤ length xs → n ≡ three_at xs → g ≡ length_good xs → w ≡ network_good xs → i ≡ index_good xs
      → (g && (leb n (length xs) && (w && i))) ≡ t → cond t n 0 ≡ record_in xs
  unfolding record_in starts_record
  record_by n g w i t h e eg ew ei q = rw (← q, e, eg, ew, ei, le-leb 8 (length xs) h) refl

-- ---- a record is told by its own bytes

record Starts (xs : List ℕ) : Type 0 where
  long : 8 ≤ length xs
  length_good_lem : length_good xs ≡ true
  fits : three_at xs ≤ length xs
  rest_good : (network_good xs && index_good xs) ≡ true
  eight : 8 ≤ three_at xs
  is : record_in xs ≡ three_at xs
  begins : starts_record xs ≡ true

starts_by : (xs : List ℕ) → 8 ≤ length xs → length_good xs ≡ true → three_at xs ≤ length xs → (network_good xs && index_good xs) ≡ true → record_in xs ≡ three_at xs
starts_by xs h g f r = sym (record_by xs (three_at xs) (length_good xs) (network_good xs) (index_good xs) true h refl refl refl refl (rw (g, le-leb (three_at xs) (length xs) f) r))

length_eight : (xs : List ℕ) → length_good xs ≡ true → 8 ≤ three_at xs
length_eight xs e =
    let a = is_digit (get_or xs 0 0) in
    let b = is_digit (get_or xs 1 0) in
    let d = is_digit (get_or xs 2 0) in
    let l = leb 8 (three_at xs) in
    let m = leb (three_at xs) 997 in
    leb-true 8 (three_at xs) (and_left l m (and_right d (l && m) (and_right b (d && (l && m)) (and_right a (b && (d && (l && m))) e))))

starts : (xs : List ℕ) → (record_in xs ≡ 0 → ⊥) → Starts xs
unfolding record_in starts_record
starts xs = cases (leb 8 (length xs)) (length_good xs) (leb (three_at xs) (length xs)) (network_good xs && index_good xs) refl refl refl refl
  where
    cases : (a b c d : Bool) → leb 8 (length xs) ≡ a → length_good xs ≡ b → leb (three_at xs) (length xs) ≡ c → (network_good xs && index_good xs) ≡ d
        → (cond (a && (b && (c && d))) (three_at xs) 0 ≡ 0 → ⊥) → Starts xs
    cases true true true true e f g i h =
        let k = leb-true 8 (length xs) e in
        let l = leb-true (three_at xs) (length xs) g in
        record { long = k; length_good_lem = f; fits = l; rest_good = i; eight = length_eight xs f; is = starts_by xs k f l i; begins = rw (e, f, g) i }
    cases true true true false e f g i h = absurd (h refl)
    cases true true false d e f g i h = absurd (h refl)
    cases true false c d e f g i h = absurd (h refl)
    cases false b c d e f g i h = absurd (h refl)

-- lists that start with the same eight bytes
record Same (xs ys : List ℕ) : Type 0 where
  three : three_at xs ≡ three_at ys
  length_same : length_good xs ≡ length_good ys
  rest_same : (network_good xs && index_good xs) ≡ (network_good ys && index_good ys)

same : (xs ys : List ℕ) → ((i : ℕ) → i < 8 → get_or xs i 0 ≡ get_or ys i 0) → Same xs ys
same xs ys h =
    let a = h 0 (omega arith) in
    let b = h 1 (omega arith) in
    let d = h 2 (omega arith) in
    let e = h 4 (omega arith) in
    let f = h 5 (omega arith) in
    let g = h 6 (omega arith) in
    let i = h 7 (omega arith) in
    record { three = rw (a, b, d) refl; length_same = rw (a, b, d) refl; rest_same = rw (e, f, g, i) refl }

record_append : (xs ys : List ℕ) → (record_in xs ≡ 0 → ⊥) → record_in (xs ++ ys) ≡ record_in xs
record_append xs ys h =
    let d = starts xs h in
    let l = d.long in
    let f = d.fits in
    let n = length-append xs ys in
    let s = same (xs ++ ys) xs (λ i k. get_or-append xs ys 0 i (omega arith)) in
    starts_by (xs ++ ys) (omega arith) (s.length_same ∙ d.length_good_lem) (omega (arith, s.three, n, f)) (s.rest_same ∙ d.rest_good) ∙ s.three ∙ sym d.is

record_alone : (xs : List ℕ) → (record_in xs ≡ 0 → ⊥) → record_in (take (record_in xs) xs) ≡ record_in xs
record_alone xs h =
    let d = starts xs h in
    let n = record_in xs in
    let l = d.long in
    let f = d.fits in
    let e = d.eight in
    let j = d.is in
    let t : length (take n xs) ≡ n = length-take-le n xs (omega arith) in
    let s = same (take n xs) xs (λ i k. get_or-take n xs i 0 (omega arith)) in
    starts_by (take n xs) (omega arith) (s.length_same ∙ d.length_good_lem) (omega (arith, s.three, t, f, j)) (s.rest_same ∙ d.rest_good) ∙ s.three ∙ sym j

pub record_sizes : Sizes record_in
record_sizes = record { le = record_le; append = record_append; alone = record_alone }

-- ---- a record is told by two numbers and tests

begins_eight : (xs : List ℕ) → starts_record xs ≡ true → 8 ≤ three_at xs
unfolding starts_record
begins_eight xs e =
    let b = leb (three_at xs) (length xs) && (network_good xs && index_good xs) in
    length_eight xs (and_left (length_good xs) b (and_right (leb 8 (length xs)) (length_good xs && b) e))

told : (d : Bool) (m n : ℕ) → (let o : Option ℕ = Some n in o) ≡ cond d (Some m) None → (d ≡ true) × (n ≡ m)
told true m n e = (refl, cc)
told false m n e = absurd cc

untold : (d : Bool) (m : ℕ) → (let o : Option ℕ = None in o) ≡ cond d (Some m) None → d ≡ false
untold true m e = absurd cc
untold false m e = refl

no_digits : (a b c x y z : Bool) → (a && (b && c)) ≡ false → (z && ((a && (b && (c && x))) && y)) ≡ false
no_digits true true true x y z e = absurd (true≢false e)
no_digits true true false x y z e = and_false z
no_digits true false c x y z e = and_false z
no_digits false b c x y z e = and_false z

digits_told : (a b c l m f w i : Bool) → (a && (b && c)) ≡ true → w ≡ true → ((a && (b && (c && (l && m)))) && (f && (w && i))) ≡ ((l && m) && (f && i))
digits_told true true true l m f true i e g = refl
digits_told true true true l m f false i e g = absurd (false≢true g)
digits_told true true false l m f w i e g = absurd (false≢true e)
digits_told true false c l m f w i e g = absurd (false≢true e)
digits_told false b c l m f w i e g = absurd (false≢true e)

some_found : (n : ℕ) → 0 < n → (let o : Option ℕ = Some n in o) ≡ found n
some_found zero h = absurd (omega arith)
some_found (suc n) h = refl

module _ (xs : List ℕ) where
  none_starts : starts_record xs ≡ false → (let o : Option ℕ = None in o) ≡ found (record_in xs)
  unfolding record_in
  none_starts e = rw e refl

  pub record_short : length xs < 8 → (let o : Option ℕ = None in o) ≡ found (record_in xs)
  unfolding starts_record
  record_short h = none_starts (rw (lt-leb 8 (length xs) h) refl)

  pub no_length : (let o : Option ℕ = None in o) ≡ three_in xs → (let o : Option ℕ = None in o) ≡ found (record_in xs)
  unfolding starts_record three_in
  no_length e =
      let d = untold (is_digit (get_or xs 0 0) && (is_digit (get_or xs 1 0) && is_digit (get_or xs 2 0))) (three_at xs) e in
      none_starts (no_digits (is_digit (get_or xs 0 0)) (is_digit (get_or xs 1 0)) (is_digit (get_or xs 2 0)) (leb 8 (three_at xs) && leb (three_at xs) 997) (leb (three_at xs) (length xs) && (network_good xs && index_good xs)) (leb 8 (length xs)) d)

  -- what `&s[4..]` hands over
  abbrev part : List ℕ
  part = take (length xs - 4) (drop 4 xs)

  network_told : network_good xs ≡ (is_digit (get_or part 0 0) && is_digit (get_or part 1 0))
  network_told = sym (rw (rest_part xs 4, get_or-drop 4 xs 0 0, get_or-drop 4 xs 1 0) refl)

  pub no_network : (let o : Option ℕ = None in o) ≡ two_in (take (length xs - 4) (drop 4 xs)) → (let o : Option ℕ = None in o) ≡ found (record_in xs)
  unfolding starts_record two_in
  no_network e =
      let d = network_told ∙ untold (is_digit (get_or part 0 0) && is_digit (get_or part 1 0)) (two_digits_at part 0) e in
      none_starts (rw (d, and_false (leb (three_at xs) (length xs)), and_false (length_good xs)) (and_false (leb 8 (length xs))))

  module _ (long : 8 ≤ length xs) (n v : ℕ) (e : (let o : Option ℕ = Some n in o) ≡ three_in xs) (w : (let o : Option ℕ = Some v in o) ≡ two_in (take (length xs - 4) (drop 4 xs))) where
    is_length : n ≡ three_at xs
    unfolding three_in
    is_length = (told (is_digit (get_or xs 0 0) && (is_digit (get_or xs 1 0) && is_digit (get_or xs 2 0))) (three_at xs) n e).1

    begins_by : starts_record xs ≡ ((leb 8 n && leb n 997) && (leb n (length xs) && index_good xs))
    unfolding starts_record three_in two_in
    begins_by =
        let d = (told (is_digit (get_or xs 0 0) && (is_digit (get_or xs 1 0) && is_digit (get_or xs 2 0))) (three_at xs) n e).0 in
        let g = network_told ∙ (told (is_digit (get_or part 0 0) && is_digit (get_or part 1 0)) (two_digits_at part 0) v w).0 in
        rw (is_length, le-leb 8 (length xs) long)
        (digits_told (is_digit (get_or xs 0 0)) (is_digit (get_or xs 1 0)) (is_digit (get_or xs 2 0)) (leb 8 (three_at xs)) (leb (three_at xs) 997) (leb (three_at xs) (length xs)) (network_good xs) (index_good xs) d g)

    pub record_told : then_some ((leb 8 n && leb n 997) && (leb n (length xs) && index_good xs)) n ≡ found (record_in xs)
    unfolding record_in
    record_told = cases ((leb 8 n && leb n 997) && (leb n (length xs) && index_good xs)) refl
      where
        cases : (t : Bool) → ((leb 8 n && leb n 997) && (leb n (length xs) && index_good xs)) ≡ t → then_some t n ≡ found (cond (starts_record xs) (three_at xs) 0)
        cases true t =
            let h = leb-true 8 n (and_left (leb 8 n) (leb n 997) (and_left (leb 8 n && leb n 997) (leb n (length xs) && index_good xs) t)) in
            some_found n (omega arith) ∙ ap found (is_length ∙ sym (rw (begins_by, t) refl))
        cases false t = sym (rw (begins_by, t) refl)

-- ---- a record is found just where its size is told

module _ (xs : List ℕ) where
  pub found_no : (let o : Option ℕ = None in o) ≡ found (record_in xs) → (let o : Option Record = None in o) ≡ found_in xs
  unfolding found_in record_in
  found_no e = cases (starts_record xs) refl e
    where
      cases : (t : Bool) → starts_record xs ≡ t → (let o : Option ℕ = None in o) ≡ found (cond t (three_at xs) 0) → (let o : Option Record = None in o) ≡ cond t (Some (record_as xs)) None
      cases true g f = let h = begins_eight xs g in let z = found_none (three_at xs) f in absurd (omega arith)
      cases false g f = refl

  pub found_yes : (n : ℕ) → (let o : Option ℕ = Some n in o) ≡ found (record_in xs) → (let o : Option Record = Some (record_as xs) in o) ≡ found_in xs
  unfolding found_in record_in
  found_yes n e = cases (starts_record xs) e
    where
      cases : (t : Bool) → (let o : Option ℕ = Some n in o) ≡ found (cond t (three_at xs) 0) → (let o : Option Record = Some (record_as xs) in o) ≡ cond t (Some (record_as xs)) None
      cases true f = refl
      cases false f = absurd cc

-- what is found, by the record's own bytes
module _ (xs : List ℕ) where
  pub found_stop : (let o : Option Record = None in o) ≡ found_in xs → record_in xs ≡ 0
  unfolding found_in record_in
  found_stop = cases (starts_record xs)
    where
      cases : (t : Bool) → (let o : Option Record = None in o) ≡ cond t (Some (record_as xs)) None → cond t (three_at xs) 0 ≡ 0
      cases true e = absurd cc
      cases false e = refl

  module _ (r : Record) (f : (let o : Option Record = Some r in o) ≡ found_in xs) where
    found_as : (r ≡ record_as xs) × (record_in xs ≡ three_at xs) × (8 ≤ three_at xs)
    unfolding found_in record_in
    found_as = cases (starts_record xs) refl f
      where
        cases : (t : Bool) → starts_record xs ≡ t → (let o : Option Record = Some r in o) ≡ cond t (Some (record_as xs)) None
            → (r ≡ record_as xs) × (cond t (three_at xs) 0 ≡ three_at xs) × (8 ≤ three_at xs)
        cases true e g = (cc, refl, begins_eight xs e)
        cases false e g = absurd cc

    pub found_size : r.size ≡ record_in xs
    found_size = ap (λ (q : Record). q.size) found_as.0 ∙ sym found_as.1

    pub found_eight : 8 ≤ r.size
    found_eight = let e = found_as in omega (arith, found_size, e.1, e.2)

    pub found_names : (w : ℕ) → names_as w r.network ≡ is_named w (take r.size xs)
    found_names w =
        let a = get_or-take r.size xs 4 0 (omega (arith, found_eight)) in
        let b = get_or-take r.size xs 5 0 (omega (arith, found_eight)) in
        ap (λ (q : Record). names_as w q.network) found_as.0 ∙ sym (rw (a, b) refl)

-- past the end
pub found_past : (s : List ℕ) (at : ℕ) → length s ≤ at → (let o : Option Record = None in o) ≡ found_in (drop at s)
found_past s at h = found_no (drop at s) (record_short (drop at s) (omega (arith, length-drop at s)))

-- ---- a zero byte starts no record

pub zero_none : (xs : List ℕ) → get_or xs 0 0 ≡ 0 → record_in xs ≡ 0
zero_none xs e = cases (record_in xs) refl
  where
    cases : (n : ℕ) → record_in xs ≡ n → n ≡ 0
    cases zero f = refl
    cases (suc n) f =
        let d = starts xs (λ z. omega (arith, z, f)) in
        let g = and_left (is_digit (get_or xs 0 0)) (is_digit (get_or xs 1 0) && (is_digit (get_or xs 2 0) && (leb 8 (three_at xs) && leb (three_at xs) 997))) d.length_good_lem in
        let k = leb-true 0x30 (get_or xs 0 0) (and_left (leb 0x30 (get_or xs 0 0)) (leb (get_or xs 0 0) 0x39) g) in
        absurd (omega (arith, k, e))

-- ---- records, and then bytes that start none

module _ (tail : List ℕ) (none : record_in tail ≡ 0) where
  pub recs_then : (rs : List (List ℕ)) → AllRecords rs → recs (flatten rs ++ tail) ≡ rs
  unfolding flatten
  recs_then [] a = pieces_stop record_in record_le tail none
  recs_then (r ∷ rs) a =
      rw (append_assoc r (flatten rs) tail)
      (pieces_cons record_in record_le (r ++ (flatten rs ++ tail)) (length r) (record_append r (flatten rs ++ tail) (λ z. a.1 (sym a.0 ∙ z)) ∙ a.0) a.1
      ∙ rw (take_at r (flatten rs ++ tail) (length r) refl, drop_at r (flatten rs ++ tail) (length r) refl) (ap (λ (l : List (List ℕ)). r ∷ l) (recs_then rs a.2)))

pub recs_all : (xs : List ℕ) → AllRecords (recs xs)
recs_all = all_pieces record_in record_sizes
