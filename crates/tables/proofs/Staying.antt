-- The laws of the records that stay when a load closes: a walk over them, and their bytes moved together in place.
use mathlib.Core.Path.{◌≡◌, refl, sym, ap, ◌∙◌}
use mathlib.Core.Bool.{Bool, true, false, cond}
use mathlib.Core.List.{List, [], ◌∷◌, ◌++◌, flatten, append_assoc, append-nil}
use Prim.Native.Nat.{ℕ, suc, ◌+◌, ◌-◌, ◌≤◌}
use native.Mathlib.Omega.{arith}
use lib.ListN.{length, take, drop, length-append, length-drop}
use lib.Seq.{drop-drop, take-take, length-take-le, take-paste, drop-paste}
use Rattle.std.specs.Prelude.{Option, Some, None}
use Rattle.answer.proofs.Pieces.{piece_more, piece_none, from_le, count_le}
use Rattle.records.specs.declared.record.Record.{Record}
use Rattle.records.specs.Within.{record_le}
use Rattle.records.specs.Record.{record_in, record_as, found_in, recs, names_as, is_named}
use Rattle.records.proofs.Records.{found_stop, found_size, found_eight, found_names}
use Rattle.tables.specs.Closing.{not_named}
use Rattle.tables.specs.Steps.{staying_bytes, moved, Compacts}
use Rattle.answer.proofs.Parts.{drop_take}

-- how many stay
abbrev pub staying_count : ℕ → List ℕ → ℕ
staying_count w bytes = length (not_named w (recs bytes))

stay_cons : (w : ℕ) (r : List ℕ) (rs : List (List ℕ)) (t : Bool) → t ≡ is_named w r → not_named w (r ∷ rs) ≡ cond t (not_named w rs) (r ∷ not_named w rs)
unfolding not_named
stay_cons w r rs t e = rw e refl

-- what the record that was told says of its bytes
pub named_by : (w : ℕ) (piece : List ℕ) (r : Record) (t : Bool) → r ≡ record_as piece → t ≡ names_as w r.network → is_named w piece ≡ t
named_by w piece r t e f = sym (f ∙ ap (λ (q : Record). names_as w q.network) e)

-- ---- a walk over the records that are left

module _ (w : ℕ) (left : List ℕ) where
  pub stay_end : recs left ≡ [] → staying_bytes w left ≡ []
  unfolding staying_bytes not_named flatten
  stay_end e = rw e refl

  pub count_end : recs left ≡ [] → staying_count w left ≡ 0
  unfolding not_named
  count_end e = rw e refl

  module _ (piece after : List ℕ) (step : recs left ≡ piece ∷ recs after) where
    here : (t : Bool) → is_named w piece ≡ t → not_named w (recs left) ≡ cond t (not_named w (recs after)) (piece ∷ not_named w (recs after))
    here t e = ap (not_named w) step ∙ stay_cons w piece (recs after) t (sym e)

    pub stay_named : is_named w piece ≡ true → staying_bytes w left ≡ staying_bytes w after
    unfolding staying_bytes
    stay_named e = ap flatten (here true e)

    pub count_named : is_named w piece ≡ true → staying_count w left ≡ staying_count w after
    count_named e = ap length (here true e)

    pub stay_more : is_named w piece ≡ false → staying_bytes w left ≡ piece ++ staying_bytes w after
    unfolding staying_bytes flatten
    stay_more e = ap flatten (here false e)

    pub count_more : is_named w piece ≡ false → staying_count w left ≡ suc (staying_count w after)
    count_more e = ap length (here false e)

    pub long_more : is_named w piece ≡ false → length (staying_bytes w left) ≡ length piece + length (staying_bytes w after)
    long_more e = ap length (stay_more e) ∙ length-append piece (staying_bytes w after)

-- no more stays than there is
stay_le : (w : ℕ) (rs : List (List ℕ)) → (length (flatten (not_named w rs)) ≤ length (flatten rs)) × (length (not_named w rs) ≤ length rs)
unfolding not_named flatten
stay_le w [] = (omega arith, omega arith)
stay_le w (r ∷ rs) = cases (is_named w r) (stay_le w rs)
  where
    cases : (t : Bool) → (length (flatten (not_named w rs)) ≤ length (flatten rs)) × (length (not_named w rs) ≤ length rs)
        → (length (flatten (cond t (not_named w rs) (r ∷ not_named w rs))) ≤ length (r ++ flatten rs)) × (length (cond t (not_named w rs) (r ∷ not_named w rs)) ≤ suc (length rs))
    cases true h = let l = length-append r (flatten rs) in (omega arith, omega arith)
    cases false h = let l = length-append r (flatten rs) in let m = length-append r (flatten (not_named w rs)) in (omega arith, omega arith)

module _ (w : ℕ) (bytes : List ℕ) where
  pub bytes_within : length (staying_bytes w bytes) ≤ length bytes
  unfolding staying_bytes
  bytes_within = let a = stay_le w (recs bytes) in omega (arith, a.0, from_le record_in record_le 0 bytes)

  pub count_within : staying_count w bytes ≤ length bytes
  count_within = let a = stay_le w (recs bytes) in omega (arith, a.1, count_le record_in record_le 0 bytes)

-- the record that is found at a place
module _ (w : ℕ) (s : List ℕ) (at : ℕ) where
  pub none_found : (let o : Option Record = None in o) ≡ found_in (drop at s) → staying_bytes w (drop at s) ≡ []
  none_found f = stay_end w (drop at s) (piece_none record_in record_le s at (record_in (drop at s)) refl (found_stop (drop at s) f))

  module _ (rec : Record) (f : (let o : Option Record = Some rec in o) ≡ found_in (drop at s)) where
    found_step : recs (drop at s) ≡ take rec.size (drop at s) ∷ recs (drop (at + rec.size) s)
    found_step = piece_more record_in record_le s at rec.size (found_size (drop at s) rec f) (λ z. omega (arith, z, found_eight (drop at s) rec f))

    pub found_named : true ≡ names_as w rec.network → staying_bytes w (drop at s) ≡ staying_bytes w (drop (at + rec.size) s)
    found_named e = stay_named w (drop at s) (take rec.size (drop at s)) (drop (at + rec.size) s) found_step (sym (e ∙ found_names (drop at s) rec f w))

    pub found_more : false ≡ names_as w rec.network → staying_bytes w (drop at s) ≡ take rec.size (drop at s) ++ staying_bytes w (drop (at + rec.size) s)
    found_more e = stay_more w (drop at s) (take rec.size (drop at s)) (drop (at + rec.size) s) found_step (sym (e ∙ found_names (drop at s) rec f w))

-- ---- moved together: read up to `from`, and what stays of it is the first `to` bytes. With what stays of the rest, that is g

abbrev pub Packing : List ℕ → ℕ → ℕ → List ℕ → ℕ → ℕ → Type 0
Packing g w used s from to = take to s ++ staying_bytes w (drop from (take used s)) ≡ g

-- s and s' are the same from k on, so their first `used` bytes are
same_tail : (s s' : List ℕ) (used k : ℕ) → drop k s' ≡ drop k s → drop k (take used s') ≡ drop k (take used s)
same_tail s s' used k e = sym (drop_take s' k used) ∙ ap (λ (l : List ℕ). take (used - k) l) e ∙ drop_take s k used

module _ (w : ℕ) (s : List ℕ) (used from : ℕ) (room : used ≤ length s) (low : from ≤ used) (rec : Record) (f : (let o : Option Record = Some rec in o) ≡ found_in (drop from (take used s))) where
  pub pack_within : from + rec.size ≤ used
  pack_within =
      let l : length (take used s) ≡ used = length-take-le used s room in
      omega (arith, l, found_size (drop from (take used s)) rec f, record_le (drop from (take used s)), length-drop from (take used s))

  bytes : take rec.size (drop from (take used s)) ≡ take rec.size (drop from s)
  bytes = ap (take rec.size) (sym (drop_take s from used)) ∙ take-take rec.size (used - from) (drop from s) (omega (arith, pack_within))

  pub pack_skip : (g : List ℕ) (to : ℕ) → true ≡ names_as w rec.network → Packing g w used s from to → Packing g w used s (from + rec.size) to
  pack_skip g to o q = ap (λ (l : List ℕ). take to s ++ l) (sym (found_named w (take used s) from rec f o)) ∙ q

  pub pack_keep : (g : List ℕ) (to : ℕ) → to ≤ from → false ≡ names_as w rec.network → Packing g w used s from to
      → Packing g w used (moved s to from rec.size) (from + rec.size) (to + rec.size)
  pack_keep g to h o q =
      let n = rec.size in
      let k = pack_within in
      let long : n ≤ length (drop from s) = simp length-drop (omega arith) in
      let i : to + n + (from - to) ≡ from + n = omega arith in
      let under : to ≤ length s = omega arith in
      let tail : drop (from + n) (moved s to from n) ≡ drop (from + n) s =
      ap (λ (m : ℕ). drop m (moved s to from n)) (sym i) ∙ sym (drop-drop (from - to) (to + n) (moved s to from n))
      ∙ ap (drop (from - to)) (drop-paste s to (drop from s) n under long) ∙ drop-drop (from - to) (to + n) s ∙ ap (λ (m : ℕ). drop m s) i in
      ap (λ (l : List ℕ). l ++ staying_bytes w (drop (from + n) (take used (moved s to from n)))) (take-paste s to (drop from s) n under long)
      ∙ ap (λ (l : List ℕ). (take to s ++ take n (drop from s)) ++ staying_bytes w l) (same_tail s (moved s to from n) used (from + n) tail)
      ∙ append_assoc (take to s) (take n (drop from s)) (staying_bytes w (drop (from + n) (take used s)))
      ∙ ap (λ (l : List ℕ). take to s ++ (l ++ staying_bytes w (drop (from + n) (take used s)))) (sym bytes)
      ∙ ap (λ (l : List ℕ). take to s ++ l) (sym (found_more w (take used s) from rec f o)) ∙ q

pub pack_done : (w : ℕ) (s₀ s : List ℕ) (used from to : ℕ) → (let o : Option Record = None in o) ≡ found_in (drop from (take used s)) → to ≤ length s → length s ≡ length s₀
    → Packing (staying_bytes w (take used s₀)) w used s from to → Compacts w used s₀ to s
pack_done w s₀ s used from to f h l q =
    let e : take to s ≡ staying_bytes w (take used s₀) =
    sym (append-nil (take to s)) ∙ ap (λ (x : List ℕ). take to s ++ x) (sym (none_found w (take used s) from f)) ∙ q in
    record { end = sym (length-take-le to s h) ∙ ap length e; front = e; long = l }
