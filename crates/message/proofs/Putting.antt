-- Bytes put one after another, for the loops that write.
use mathlib.Core.Path.{◌≡◌, sym, ap, ◌∙◌, subst}
use mathlib.Core.List.{List, [], ◌++◌, append_assoc, append-nil}
use Prim.Native.Nat.{ℕ, ◌+◌, ◌≤◌}
use native.Mathlib.Omega.{arith}
use lib.ListN.{length, length-append}
use Rattle.answer.specs.Laid.{pasted, Puts, PutIf}
use Rattle.answer.proofs.Laid.{pasted_length, pasted_join, put_fits}

-- of `all`, put from w₀ on, `left` is still to come
pub record Putting (all left out₀ : List ℕ) (w₀ : ℕ) (out : List ℕ) (w : ℕ) : Type 0 where
  pub done : List ℕ
  pub split : all ≡ done ++ left
  pub place : w ≡ w₀ + length done
  pub bytes : out ≡ pasted out₀ w₀ done
  pub long : length out ≡ length out₀

pub putting_left : {all left other out₀ : List ℕ} {w₀ : ℕ} {out : List ℕ} {w : ℕ} → left ≡ other → Putting all left out₀ w₀ out w → Putting all other out₀ w₀ out w
putting_left {all} {left} {other} {out₀} {w₀} {out} {w} e p = subst (λ (l : List ℕ). Putting all l out₀ w₀ out w) e p

pub putting_all : (all out₀ : List ℕ) (w₀ : ℕ) (out : List ℕ) (w : ℕ) → Putting all [] out₀ w₀ out w → Puts out₀ w₀ all w out
putting_all all out₀ w₀ out w p =
    let e : p.done ≡ all = sym (p.split ∙ append-nil p.done) in
    record { bytes = p.bytes ∙ ap (λ (s : List ℕ). pasted out₀ w₀ s) e; next = p.place ∙ ap (λ (s : List ℕ). w₀ + length s) e }

-- s is next, in a buffer that has room for all
module _ (all left s out₀ : List ℕ) (w₀ : ℕ) (out : List ℕ) (w : ℕ) (p : Putting all (s ++ left) out₀ w₀ out w) (room : w₀ + length all ≤ length out₀) where
  pub putting_room : w + length s ≤ length out
  putting_room = omega (arith, p.place, p.long, length-append s left, simp length-append at (ap length p.split))

  pub putting_more : (out' : List ℕ) (w' : ℕ) → Puts out w s w' out' → Putting all left out₀ w₀ out' w'
  putting_more out' w' u =
      record {
        done = p.done ++ s;
        split = p.split ∙ sym (append_assoc p.done s left);
        place = u.next ∙ simp length-append (omega (arith, p.place));
        bytes =
            u.bytes ∙ ap (λ (l : List ℕ). pasted l w s) p.bytes ∙ ap (λ (n : ℕ). pasted (pasted out₀ w₀ p.done) n s) p.place
            ∙ pasted_join out₀ w₀ p.done s (omega (arith, room));
        long = ap length u.bytes ∙ pasted_length out w s putting_room ∙ p.long;
      }

  pub putting_fits : (out' : List ℕ) (w' : ℕ) → PutIf out w s w' out' → Putting all left out₀ w₀ out' w'
  putting_fits out' w' u = putting_more out' w' (put_fits out w s w' out' putting_room u)

-- what is put next to one another is put at once
pub puts_join : (l a b : List ℕ) (at m r : ℕ) (out out' : List ℕ) → at ≤ length l → Puts l at a m out → Puts out m b r out' → Puts l at (a ++ b) r out'
puts_join l a b at m r out out' h u v =
    record {
      bytes =
          v.bytes ∙ ap (λ (x : List ℕ). pasted x m b) u.bytes ∙ ap (λ (n : ℕ). pasted (pasted l at a) n b) u.next
          ∙ pasted_join l at a b h;
      next = v.next ∙ ap (λ (n : ℕ). n + length b) u.next ∙ simp length-append (omega arith);
    }
