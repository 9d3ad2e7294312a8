-- What reception makes of a packet's data, with no 16h and no 17h in it, is what the packet reader makes of it.
use mathlib.Core.Path.{◌≡◌, refl, sym, ap, ◌∙◌}
use mathlib.Core.Bool.{Bool, true, false, not, ◌&&◌, cond, false≢true}
use mathlib.Core.List.{List, [], ◌∷◌, ◌++◌, append_assoc, append-nil}
use Prim.Native.Nat.{ℕ, zero, suc, ◌/◌, ◌%◌, ◌≤◌, ◌<◌}
use native.Mathlib.Omega.{arith}
use native.Mathlib.Numerals.{add-one}
use lib.ListN.{length, take, drop, length-append}
use lib.Seq.{take-append_seam, drop-append-add}
use lib.Dec.{leb, ltb, eqb}
use borrow.Author.Tests.{eqb-true, le-leb, le-ltb, lt-ltb, leb-true, leb-false, ne_eqb}
use Rattle.std.specs.Prelude.{Option, Some, None, Ok, Err}
use Rattle.answer.specs.declared.refusal.Refusal.TheVariants.{Empty, TooLong, WrongCheck}
use Rattle.answer.specs.Answers.{Output}
use Rattle.crc16.specs.Crc.{check}
use Rattle.packet.specs.Substitution.{and_then, pair_then, plain_then, unstuff}
use Rattle.packet.specs.Packet.{before, judged, read_packet}
use Rattle.device.specs.Machine.{good_packet}
use Rattle.history.specs.Text.{has, Item, item_of, found}
use Rattle.history.specs.Text.Item.{good, bad}
use Rattle.history.proofs.Places.{or_left, or_right}
use Rattle.history.proofs.Heard.{Heard, begun, put, next_data, next13h, next, judged_as, heard_at}
use Rattle.history.proofs.Heard.Heard.{outside, in_data, after13h, first_check, second_check}
use Rattle.history.proofs.Stretch.{next_all}

-- ---- the reader, where the data has no 17h

-- in data with no 17h followed by 17h, all of the data stands before it
before_body : (body t : List ℕ) → has 0x17 body ≡ false → before 0x17 (body ++ (0x17 ∷ t)) ≡ length body
unfolding before has
before_body [] t e = refl
before_body (x ∷ xs) t e = rw (or_left (eqb x 0x17) (has 0x17 xs) e) (ap suc (before_body xs t (or_right (eqb x 0x17) (has 0x17 xs) e)))

-- the reader judges the data by its substitutions undone
pub found_judged : (body : List ℕ) (a b : ℕ) → has 0x17 body ≡ false → found body a b ≡ item_of (judged (unstuff body) a b)
unfolding found read_packet
found_judged body a b e =
    let t : List ℕ = 0x17 ∷ a ∷ b ∷ [] in
    let n = before_body body (a ∷ b ∷ []) e in
    let front : take (before 0x17 (body ++ t)) (body ++ t) ≡ body = ap (λ (m : ℕ). take m (body ++ t)) n ∙ take-append_seam body t in
    let tail : drop (suc (before 0x17 (body ++ t))) (body ++ t) ≡ a ∷ b ∷ [] =
    ap (λ (m : ℕ). drop m (body ++ t)) (ap suc n ∙ sym (add-one (length body))) ∙ drop-append-add body t 1 in
    rw (front, tail) refl

-- ---- spoiled packets

-- what is complete, where the checks that follow are a and b
unfoldable pub outcome : Heard → ℕ → ℕ → List Item
outcome r a b = heard_at (next r a) b

-- a packet whose data is read is spoiled
abbrev is_spoiled : Heard → Bool
is_spoiled outside = false
is_spoiled (in_data p s) = s
is_spoiled (after13h p s) = s
is_spoiled (first_check p s) = false
is_spoiled (second_check p s a) = false

-- a payload byte unspoils nothing
spoiled_put : (p : List ℕ) (s : Bool) (b : ℕ) → s ≡ true → is_spoiled (put p s b) ≡ true
unfolding put
spoiled_put p s b e = cases (leb 2048 (length p))
  where
    cases : (t : Bool) → is_spoiled (cond t (in_data p true) (in_data (p ++ (b ∷ [])) s)) ≡ true
    cases true = refl
    cases false = e

-- a spoiled packet stays spoiled
spoiled_next : (r : Heard) (b : ℕ) → is_spoiled r ≡ true → eqb b 0x16 ≡ false → eqb b 0x17 ≡ false → is_spoiled (next r b) ≡ true
unfolding next next_data next13h
spoiled_next outside b d e f = absurd (false≢true d)
spoiled_next (first_check p s) b d e f = absurd (false≢true d)
spoiled_next (second_check p s a) b d e f = absurd (false≢true d)
spoiled_next (in_data p s) b d e f = rw (e, f) (cases (eqb b 0x13))
  where
    cases : (t : Bool) → is_spoiled (cond t (after13h p s) (put p s b)) ≡ true
    cases true = d
    cases false = spoiled_put p s b d
spoiled_next (after13h p s) b d e f = rw (e, f) (cases (eqb b 0x33) (eqb b 0x36) (eqb b 0x37))
  where
    cases : (u v w : Bool) → is_spoiled (cond u (put p s 0x13) (cond v (put p s 0x16) (cond w (put p s 0x17) (in_data p true)))) ≡ true
    cases true v w = spoiled_put p s 0x13 d
    cases false true w = spoiled_put p s 0x16 d
    cases false false true = spoiled_put p s 0x17 d
    cases false false false = refl

-- it is bad where its data ends
spoiled_end : (r : Heard) (a b : ℕ) → is_spoiled r ≡ true → outcome (next r 0x17) a b ≡ bad ∷ []
unfolding outcome next next_data next13h heard_at judged_as good_packet
spoiled_end outside a b d = absurd (false≢true d)
spoiled_end (in_data p s) a b d = rw d refl
spoiled_end (after13h p s) a b d = refl
spoiled_end (first_check p s) a b d = absurd (false≢true d)
spoiled_end (second_check p s c) a b d = absurd (false≢true d)

-- and is bad, whatever follows
spoiled_ends : (r : Heard) (z : List ℕ) (a b : ℕ) → is_spoiled r ≡ true → has 0x16 z ≡ false → has 0x17 z ≡ false → outcome (next (next_all r z) 0x17) a b ≡ bad ∷ []
unfolding next_all has
spoiled_ends r [] a b d e f = spoiled_end r a b d
spoiled_ends r (x ∷ z) a b d e f =
    spoiled_ends (next r x) z a b (spoiled_next r x d (or_left (eqb x 0x16) (has 0x16 z) e) (or_left (eqb x 0x17) (has 0x17 z) f))
    (or_right (eqb x 0x16) (has 0x16 z) e) (or_right (eqb x 0x17) (has 0x17 z) f)

-- ---- the data after a payload so far

-- a payload so far before the rest
prefixed : List ℕ → Option (List ℕ) → Option (List ℕ)
prefixed q (Some p) = Some (q ++ p)
prefixed q None = None

-- what the reader finds
unfoldable finds : Option (List ℕ) → ℕ → ℕ → List Item
finds u a b = item_of (judged u a b) ∷ []

-- what the data z, which undone is u, gives from the payload so far q on
abbrev Ends : List ℕ → Option (List ℕ) → Type 0
Ends z u = (q : List ℕ) (a b : ℕ) → length q ≤ 2048 → outcome (next (next_all (in_data q false) z) 0x17) a b ≡ finds (prefixed q u) a b

-- a byte of the rest goes over to the payload so far
prefixed_snoc : (q : List ℕ) (x : ℕ) (u : Option (List ℕ)) → prefixed (q ++ (x ∷ [])) u ≡ prefixed q (and_then x u)
unfolding prefixed
prefixed_snoc q x (Some p) = ap (λ (y : List ℕ). let o : Option (List ℕ) = Some y in o) (append_assoc q (x ∷ []) p)
prefixed_snoc q x None = refl

-- more than 2,048 bytes are refused
sized_long : (p : List ℕ) (more : Output) → 2048 < length p → item_of (cond (eqb (length p) 0) (Err Empty) (cond (ltb 2048 (length p)) (Err TooLong) more)) ≡ bad
sized_long p more h = rw (ne_eqb (length p) 0 (λ e. omega arith), lt-ltb 2048 (length p) h) refl

-- one byte after 2,048 is too many
too_long : (q : List ℕ) (x : ℕ) (u : Option (List ℕ)) (a b : ℕ) → 2048 ≤ length q → finds (prefixed q (and_then x u)) a b ≡ bad ∷ []
unfolding prefixed finds
too_long q x None a b h = refl
too_long q x (Some p) a b h = ap (λ (i : Item). i ∷ []) (sized_long (q ++ (x ∷ p)) _ (simp length-append (omega arith)))

-- a payload byte, and the rest
put_ends : (x : ℕ) (z : List ℕ) (u : Option (List ℕ)) → has 0x16 z ≡ false → has 0x17 z ≡ false → Ends z u
    → (q : List ℕ) (a b : ℕ) → length q ≤ 2048 → outcome (next (next_all (put q false x) z) 0x17) a b ≡ finds (prefixed q (and_then x u)) a b
unfolding put
put_ends x z u e f ih q a b h = cases (leb 2048 (length q)) refl
  where
    cases : (t : Bool) → leb 2048 (length q) ≡ t
        → outcome (next (next_all (cond t (in_data q true) (in_data (q ++ (x ∷ [])) false)) z) 0x17) a b ≡ finds (prefixed q (and_then x u)) a b
    cases true g = spoiled_ends (in_data q true) z a b refl e f ∙ sym (too_long q x u a b (leb-true 2048 (length q) g))
    cases false g =
        let l = leb-false 2048 (length q) g in
        ih (q ++ (x ∷ [])) a b (simp length-append (omega arith)) ∙ ap (λ (v : Option (List ℕ)). finds v a b) (prefixed_snoc q x u)

-- a payload of at most 2,048 bytes is judged as the reader judges it
judged_alike : (p : List ℕ) (a b : ℕ) → length p ≤ 2048 → judged_as p false a b ≡ item_of (judged (Some p) a b)
unfolding judged_as good_packet
judged_alike p a b h = rw (le-ltb 2048 (length p) h) (cases (length p) (eqb a (check p / 256) && eqb b (check p % 256)))
  where
    cases : (n : ℕ) (t : Bool) → cond (not false && (leb 1 n && t)) (good p) bad ≡ item_of (cond (eqb n 0) (Err Empty) (cond false (Err TooLong) (cond t (Ok p) (Err WrongCheck))))
    cases zero t = refl
    cases (suc n) true = rw (le-leb 1 (suc n) (omega arith), ne_eqb (suc n) 0 (λ e. omega arith)) refl
    cases (suc n) false = rw (le-leb 1 (suc n) (omega arith), ne_eqb (suc n) 0 (λ e. omega arith)) refl

-- no more data
none_ends : Ends [] (Some [])
unfolding next_all outcome next next_data heard_at prefixed finds
none_ends q a b h = rw (append-nil q) (ap (λ (i : Item). i ∷ []) (judged_alike q a b h))

-- ---- byte by byte and pair by pair

-- a byte that is no 16h and no 17h stands for itself
plain_then_lem : (x : ℕ) (u : Option (List ℕ)) → eqb x 0x16 ≡ false → eqb x 0x17 ≡ false → plain_then x u ≡ and_then x u
unfolding plain_then
plain_then_lem x u e f = rw (e, f) refl

-- a byte that is no 13h
plain_ends : (x : ℕ) (z : List ℕ) (u : Option (List ℕ)) → eqb x 0x13 ≡ false → has 0x16 (x ∷ z) ≡ false → has 0x17 (x ∷ z) ≡ false → Ends z u → Ends (x ∷ z) (plain_then x u)
unfolding next_all next next_data has
plain_ends x z u g e f ih q a b h =
    rw (or_left (eqb x 0x16) (has 0x16 z) e, or_left (eqb x 0x17) (has 0x17 z) f, g)
    (put_ends x z u (or_right (eqb x 0x16) (has 0x16 z) e) (or_right (eqb x 0x17) (has 0x17 z) f) ih q a b h
    ∙ ap (λ (v : Option (List ℕ)). finds (prefixed q v) a b) (sym (plain_then_lem x u (or_left (eqb x 0x16) (has 0x16 z) e) (or_left (eqb x 0x17) (has 0x17 z) f))))

-- 13h at the end, right before 17h
lone_ends : (x : ℕ) → eqb x 0x13 ≡ true → Ends (x ∷ []) None
unfolding next_all next next_data next13h outcome heard_at judged_as good_packet prefixed finds
lone_ends x g q a b h = rw (eqb-true x 0x13 g) refl

-- data that is sent for no payload is bad
finds_spoiled : (q : List ℕ) (a b : ℕ) → bad ∷ [] ≡ finds (prefixed q None) a b
unfolding prefixed finds
finds_spoiled q a b = refl

-- a pair
pair_ends : (x y : ℕ) (z : List ℕ) (u : Option (List ℕ)) → eqb x 0x13 ≡ true → has 0x16 (y ∷ z) ≡ false → has 0x17 (y ∷ z) ≡ false → Ends z u → Ends (x ∷ y ∷ z) (pair_then y u)
unfolding next_all next next_data next13h has pair_then
pair_ends x y z u g e f ih q a b h =
    rw (eqb-true x 0x13 g, or_left (eqb y 0x16) (has 0x16 z) e, or_left (eqb y 0x17) (has 0x17 z) f) (cases (eqb y 0x33) (eqb y 0x36) (eqb y 0x37))
  where
    no_syn : has 0x16 z ≡ false
    no_syn = or_right (eqb y 0x16) (has 0x16 z) e

    no_etb : has 0x17 z ≡ false
    no_etb = or_right (eqb y 0x17) (has 0x17 z) f

    cases : (t v w : Bool)
        → outcome (next (next_all (cond t (put q false 0x13) (cond v (put q false 0x16) (cond w (put q false 0x17) (in_data q true)))) z) 0x17) a b
        ≡ finds (prefixed q (cond t (and_then 0x13 u) (cond v (and_then 0x16 u) (cond w (and_then 0x17 u) None)))) a b
    cases true v w = put_ends 0x13 z u no_syn no_etb ih q a b h
    cases false true w = put_ends 0x16 z u no_syn no_etb ih q a b h
    cases false false true = put_ends 0x17 z u no_syn no_etb ih q a b h
    cases false false false = spoiled_ends (in_data q true) z a b refl no_syn no_etb ∙ finds_spoiled q a b

-- one byte
one_ends : (x : ℕ) → has 0x16 (x ∷ []) ≡ false → has 0x17 (x ∷ []) ≡ false → Ends (x ∷ []) (unstuff (x ∷ []))
unfolding unstuff
one_ends x e f = cases (eqb x 0x13) refl
  where
    cases : (t : Bool) → eqb x 0x13 ≡ t → Ends (x ∷ []) (cond t None (plain_then x (Some [])))
    cases true g = lone_ends x g
    cases false g = plain_ends x [] (Some []) g e f none_ends

-- two bytes or more
two_ends : (x y : ℕ) (z : List ℕ) → has 0x16 (x ∷ y ∷ z) ≡ false → has 0x17 (x ∷ y ∷ z) ≡ false
    → Ends z (unstuff z) → Ends (y ∷ z) (unstuff (y ∷ z)) → Ends (x ∷ y ∷ z) (unstuff (x ∷ y ∷ z))
unfolding unstuff
two_ends x y z e f ih jh = cases (eqb x 0x13) refl
  where
    cases : (t : Bool) → eqb x 0x13 ≡ t → Ends (x ∷ y ∷ z) (cond t (pair_then y (unstuff z)) (plain_then x (unstuff (y ∷ z))))
    cases true g =
        pair_ends x y z (unstuff z) g
        (unfold has in or_right (eqb x 0x16) (has 0x16 (y ∷ z)) e)
        (unfold has in or_right (eqb x 0x17) (has 0x17 (y ∷ z)) f) ih
    cases false g = plain_ends x (y ∷ z) (unstuff (y ∷ z)) g e f jh

-- all data
ends : (z : List ℕ) → has 0x16 z ≡ false → has 0x17 z ≡ false → Ends z (unstuff z)
unfolding unstuff has
ends [] e f = none_ends
ends (x ∷ []) e f = one_ends x e f
ends (x ∷ y ∷ z) e f =
    let e₁ = or_right (eqb x 0x16) (has 0x16 (y ∷ z)) e in
    let f₁ = or_right (eqb x 0x17) (has 0x17 (y ∷ z)) f in
    two_ends x y z e f
    (ends z (or_right (eqb y 0x16) (has 0x16 z) e₁) (or_right (eqb y 0x17) (has 0x17 z) f₁))
    (ends (y ∷ z) e₁ f₁)

-- with no payload so far the rest is all
same_prefix : (u : Option (List ℕ)) → prefixed [] u ≡ u
unfolding prefixed
same_prefix (Some p) = refl
same_prefix None = refl

-- data with no 16h and no 17h, and its checks, are what is found by eye
pub body_found : (z : List ℕ) (a b : ℕ) → has 0x16 z ≡ false → has 0x17 z ≡ false → outcome (next (next_all begun z) 0x17) a b ≡ found z a b ∷ []
unfolding finds
body_found z a b e f =
    ends z e f [] a b (omega arith) ∙ ap (λ (u : Option (List ℕ)). item_of (judged u a b) ∷ []) (same_prefix (unstuff z))
    ∙ ap (λ (i : Item). i ∷ []) (sym (found_judged z a b f))
