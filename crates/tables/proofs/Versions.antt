-- The laws of the versions, ten bytes for each network.
use mathlib.Core.Path.{◌≡◌, refl, sym, ap, ◌∙◌}
use mathlib.Core.List.{List, [], ◌++◌, flatten, append_assoc, append-nil}
use Prim.Native.Nat.{ℕ, zero, suc, ◌+◌, ◌*◌, ◌≤◌, ◌<◌}
use native.Mathlib.Omega.{arith}
use native.Mathlib.Numerals.{add-one}
use lib.ListN.{length, drop, replicate, length-append, length-drop, drop_of_length-le}
use lib.Seq.{drop-drop, take_at, drop_at}
use Rattle.answer.specs.Laid.{PutIf, pasted}
use borrow.Author.Tests.{eq-eqb, ne_eqb, le-leb, lt-leb}
use Rattle.answer.proofs.Laid.{put_fits, pasted_length}
use Rattle.tables.specs.Closing.{no_version, new_versions}

-- n versions, one after another
abbrev pub many : ℕ → List ℕ → List ℕ
many n v = flatten (replicate n v)

-- none yet
pub none_yet : (l : List ℕ) → flatten {A = ℕ} [] ++ l ≡ l
unfolding flatten
none_yet l = refl

many_last : (n : ℕ) (v : List ℕ) → many n v ++ v ≡ v ++ many n v
unfolding flatten
many_last zero v = sym (append-nil v)
many_last (suc n) v = append_assoc v (many n v) v ∙ ap (λ (l : List ℕ). v ++ l) (many_last n v)

pub many_long : (n : ℕ) (v : List ℕ) → length v ≡ 10 → length (many n v) ≡ n * 10
unfolding flatten
many_long zero v h = refl
many_long (suc n) v h = length-append v (many n v) ∙ omega (arith, many_long n v h, h)

-- one version more, in the place of what stood there
module _ (n : ℕ) (l v : List ℕ) (hl : length l ≡ 1000) (hv : length v ≡ 10) (low : n < 100) where
  begun_long : length (many n v ++ drop (n * 10) l) ≡ length l
  begun_long = simp (length-append, length-drop) (omega (arith, many_long n v hv))

  pub version_room : n * 10 + length v ≤ length (many n v ++ drop (n * 10) l)
  version_room = omega (arith, begun_long)

  pub version_more : (r : ℕ) (out : List ℕ) → PutIf (many n v ++ drop (n * 10) l) (n * 10) v r out
      → (out ≡ many (n + 1) v ++ drop ((n + 1) * 10) l) × (length out ≡ length l)
  unfolding flatten
  version_more r out u =
      let q = put_fits (many n v ++ drop (n * 10) l) (n * 10) v r out version_room u in
      let f = many_long n v hv in
      let i : n * 10 + length v ≡ (n + 1) * 10 = omega arith in
      let d : drop (n * 10 + length v) (many n v ++ drop (n * 10) l) ≡ drop ((n + 1) * 10) l =
      sym (drop-drop (length v) (n * 10) (many n v ++ drop (n * 10) l)) ∙ ap (drop (length v)) (drop_at (many n v) (drop (n * 10) l) (n * 10) f)
      ∙ drop-drop (length v) (n * 10) l ∙ ap (λ (k : ℕ). drop k l) i in
      let m : many n v ++ v ≡ many (n + 1) v = many_last n v ∙ ap (λ (k : ℕ). many k v) (sym (add-one n)) in (
        q.bytes ∙ rw (take_at (many n v) (drop (n * 10) l) (n * 10) f, d, m) refl,
        ap length q.bytes ∙ pasted_length (many n v ++ drop (n * 10) l) (n * 10) v version_room ∙ begun_long,
      )

pub version_all : (n k : ℕ) (l v : List ℕ) → length l ≤ n * 10 → n ≡ k → many n v ++ drop (n * 10) l ≡ many k v
version_all n k l v h e = rw (drop_of_length-le l {i = n * 10} h) (append-nil (many n v) ∙ ap (λ (m : ℕ). many m v) e)

-- ---- by the network

module _ (network : ℕ) (v l : List ℕ) where
  pub versions_all : network ≡ 0 → (out : List ℕ) → out ≡ many 100 v → out ≡ new_versions network v l
  unfolding new_versions
  versions_all z out e = rw (eq-eqb network 0 z) e

  pub versions_same : 99 < network → l ≡ new_versions network v l
  unfolding new_versions
  versions_same h = rw (ne_eqb network 0 (λ z. omega arith), lt-leb network 99 h) refl

  pub versions_one : (network ≡ 0 → ⊥) → network ≤ 99 → length l ≡ 1000 → length v ≡ 10 → (r : ℕ) (out : List ℕ) → PutIf l (network * 10) v r out
      → (q : ℕ) (out' : List ℕ) → PutIf out 0 no_version q out' → out' ≡ new_versions network v l
  unfolding new_versions
  versions_one h k hl hv r out u q out' t =
      let e = (put_fits l (network * 10) v r out (omega arith) u).bytes in
      let n : length out ≡ 1000 = ap length e ∙ pasted_length l (network * 10) v (omega arith) ∙ hl in
      let f = (put_fits out 0 no_version q out' (omega arith) t).bytes in
      rw (ne_eqb network 0 h, le-leb network 99 k) (f ∙ ap (λ (x : List ℕ). pasted x 0 no_version) e)
