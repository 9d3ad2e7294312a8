-- The laws of a message's head, and of the head and the blocks together.
use mathlib.Core.Path.{◌≡◌, refl, sym, ◌∙◌}
use mathlib.Core.Bool.{Bool, true, false, false≢true}
use mathlib.Core.List.{List}
use Prim.Native.Nat.{ℕ, ◌≤◌, ◌<◌}
use native.Mathlib.Omega.{arith}
use lib.ListN.{length, length-take}
use lib.Dec.{leb, eqb}
use borrow.Author.Tests.{ne_eqb, eqb-true, eqb-false, leb-true, leb-false}
use Rattle.message.specs.Message.{head_length, head_good, head_of, framed}

head_not : (head : List ℕ) (response : Bool) → (length head ≡ head_length response → ⊥) → head_good response head ≡ false
unfolding head_good
head_not head response h = rw (ne_eqb (length head) (head_length response) h) refl

-- a good head has its length
pub head_long : (head : List ℕ) (response : Bool) → head_good response head ≡ true → length head ≡ head_length response
head_long head response e = cases (eqb (length head) (head_length response)) refl
  where
    cases : (t : Bool) → eqb (length head) (head_length response) ≡ t → length head ≡ head_length response
    cases true f = eqb-true (length head) (head_length response) f
    cases false f = absurd (false≢true (sym (head_not head response (eqb-false (length head) (head_length response) f)) ∙ e))

six : (response : Bool) → head_length response ≤ 6
six true = omega arith
six false = omega arith

pub head_six : (head : List ℕ) (response : Bool) → head_good response head ≡ true → length head ≤ 6
head_six head response e = omega (arith, head_long head response e, six response)

module _ (response : Bool) (m : List ℕ) (n : ℕ) (k : n ≡ head_length response) where
  framed_short : length m < n → framed response m ≡ false
  framed_short h = rw (head_not (head_of response m) response (λ z. omega (arith, simp length-take at z))) refl

  pub framed_room : framed response m ≡ true → n ≤ length m
  framed_room e = cases (leb n (length m)) refl
    where
      cases : (t : Bool) → leb n (length m) ≡ t → n ≤ length m
      cases true f = leb-true n (length m) f
      cases false f = absurd (false≢true (sym (framed_short (leb-false n (length m) f)) ∙ e))
