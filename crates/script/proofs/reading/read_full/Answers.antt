-- A read goes on where the last one ended.
use Rattle.std.proofs.Common.{rules, ◌≡◌, ℕ, ◌+◌, ◌≤◌, List, ◌++◌, length, take, drop, Option, None, Some, sym, ap, ◌∙◌, subst, append_assoc, length-take-le}
use Rattle.std.proofs.Math.Seq.{take-append-add}
use Rattle.std.proofs.lemmas.List.{take-append-le}
use Rattle.std.specs.Io.KnownBytes.{Consumes}
use borrow.Rule.Slice.PartMut.{put_mid}
use Rattle.script.proofs.reading.read_full.Goals as goal

Consumes_more : (a b c : Option (List ℕ)) (xs ys : List ℕ) → Consumes a b xs → Consumes b c ys → Consumes a c (xs ++ ys)
Consumes_more None b c xs ys p q = tt
Consumes_more (Some x) None c xs ys p q = absurd p
Consumes_more (Some x) (Some y) None xs ys p q = absurd q
Consumes_more (Some x) (Some y) (Some z) xs ys p q = p ∙ ap (λ l. xs ++ l) q ∙ sym (append_assoc xs ys z)

take_more : (a k n : ℕ) (xs ys : List ℕ) → a ≤ length xs → n ≤ length ys → take (a + n) (put_mid a k xs ys) ≡ take a xs ++ take n ys
take_more a k n xs ys within fits =
    let rest = drop k (drop a xs) in
    ap (λ m. take (m + n) (take a xs ++ (ys ++ rest))) (sym (length-take-le a xs within)) ∙ take-append-add (take a xs) (ys ++ rest) n
    ∙ ap (λ l. take a xs ++ l) (take-append-le n ys rest fits)

pub loop-done-preserved : goal.loop-done-preserved
loop-done-preserved g c =
    let held = c.loop-done.invariant in
    let whole = take_more c.loop-done.done _ c.in_ok-n.n c.loop-done.room c.read.new.buf held.in_bounds c.in_ok-n.ensures.bound.0 in record {
      in_bounds = search rules;
      bytes = subst (Consumes _ _) (sym whole) (Consumes_more _ _ _ _ _ held.bytes c.in_ok-n.ensures.bytes.0);
    }
