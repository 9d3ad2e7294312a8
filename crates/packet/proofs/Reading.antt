-- The laws of a body's symbols: what they come to one after another, and that this is what the body is sent for.
use Rattle.std.proofs.Common.{◌≡◌, refl, sym, ap, ap₂, subst, ◌∙◌, ℕ, ◌+◌, ◌-◌, ◌≤◌, ◌<◌, Bool, true, false, cond, ◌||◌, List, [], ◌∷◌, ◌++◌, length, arith, Option, Some, None}
use mathlib.Core.Bool.{true≢false}
use mathlib.Core.List.{append-nil}
use lib.Dec.{eqb}
use borrow.Author.Tests.{ne_eqb, eqb-true}
use lib.ListN.{length-append, length-set, get_or, set, drop}
use lib.Seq.{append_snoc}
use Rattle.answer.specs.Answers.{over}
use Rattle.answer.specs.Laid.{pasted}
use Rattle.answer.proofs.Laid.{pasted_none, pasted_start, set_one, pasted_join}
use Rattle.crc16.specs.Register.{stepped, register_after}
use Rattle.crc16.proofs.Steps.{step_none, step_after}
use Rattle.packet.specs.declared.Body.{Body}
use Rattle.packet.specs.Substitution.{and_then, pair_then, plain_then, unstuff}
use Rattle.packet.specs.Steps.{pair_of, plain_of, symbols, payload_in, body_of, Room}

-- the payload of some symbols: none, where one stands for none
abbrev pub given : List (Option ℕ) → Option (List ℕ)
given [] = Some []
given (Some b ∷ l) = and_then b (given l)
given (None ∷ l) = None

abbrev pair_by : Bool → Bool → Bool → Option ℕ
pair_by c d e = cond c (Some 0x13) (cond d (Some 0x16) (cond e (Some 0x17) None))

abbrev pair_then_by : Bool → Bool → Bool → Option (List ℕ) → Option (List ℕ)
pair_then_by c d e more = cond c (and_then 0x13 more) (cond d (and_then 0x16 more) (cond e (and_then 0x17 more) None))

abbrev first : ℕ → Bool → Bool → Option ℕ
first x a b = cond (a || b) None (Some x)

one : (x : ℕ) (a b : Bool) (l : List (Option ℕ)) → cond a None (cond b None (and_then x (given l))) ≡ given (first x a b ∷ l)
one x true b l = refl
one x false true l = refl
one x false false l = refl

two : (x : ℕ) (a b c d e : Bool) (l m : List (Option ℕ))
    → cond a (pair_then_by c d e (given l)) (cond b None (and_then x (given m))) ≡ given (cond a (pair_by c d e ∷ l) (first x a b ∷ m))
two x true b true d e l m = refl
two x true b false true e l m = refl
two x true b false false true l m = refl
two x true b false false false l m = refl
two x false true c d e l m = refl
two x false false c d e l m = refl

-- A BODY'S SYMBOLS are what it is sent for
pub symbols_given : (xs : List ℕ) → unstuff xs ≡ given (symbols xs)
unfolding unstuff symbols pair_then plain_then pair_of plain_of
symbols_given [] = refl
symbols_given (x ∷ []) = one x (eqb x 0x13) (eqb x 0x16 || eqb x 0x17) []
symbols_given (x ∷ y ∷ ys) =
    ap₂ (λ (u v : Option (List ℕ)). cond (eqb x 0x13) (pair_then y u) (plain_then x v)) (symbols_given ys) (symbols_given (y ∷ ys))
    ∙ two x (eqb x 0x13) (eqb x 0x16 || eqb x 0x17) (eqb y 0x33) (eqb y 0x36) (eqb y 0x37) (symbols ys) (symbols (y ∷ ys))

pub symbols_short : (xs : List ℕ) → length (symbols xs) ≤ length xs
unfolding symbols
symbols_short [] = omega arith
symbols_short (x ∷ []) = omega arith
symbols_short (x ∷ y ∷ ys) = cases (eqb x 0x13) (symbols_short ys) (symbols_short (y ∷ ys))
  where
    cases : (a : Bool) → length (symbols ys) ≤ length ys → length (symbols (y ∷ ys)) ≤ length (y ∷ ys)
        → length (cond a (pair_of y ∷ symbols ys) (plain_of x ∷ symbols (y ∷ ys))) ≤ length (x ∷ y ∷ ys)
    cases true h k = omega arith
    cases false h k = omega arith

-- ---- the first walk

-- the judgement, where n payload bytes are read, `register` has met them, and some symbols are left
abbrev pub body_from : ℕ → ℕ → List (Option ℕ) → Option Body
body_from n register [] = Some (record { count = n; register = register })
body_from n register (Some b ∷ l) = body_from (n + 1) (stepped register b) l
body_from n register (None ∷ l) = None

abbrev joined : List ℕ → Option (List ℕ) → Option (List ℕ)
joined done (Some p) = Some (done ++ p)
joined done None = None

joined_then : (done : List ℕ) (b : ℕ) (u : Option (List ℕ)) → joined (done ++ (b ∷ [])) u ≡ joined done (and_then b u)
joined_then done b (Some p) = ap Some (append_snoc done b p)
joined_then done b None = refl

judging : (done : List ℕ) (l : List (Option ℕ)) → body_from (length done) (register_after done) l ≡ body_of (joined done (given l))
judging done [] = ap (λ (p : List ℕ). body_of (Some p)) (sym (append-nil done))
judging done (Some b ∷ l) =
    let n : length done + 1 ≡ length (done ++ (b ∷ [])) = sym (length-append done (b ∷ [])) in
    ap₂ (λ (n r : ℕ). body_from n r l) n (step_after done b) ∙ judging (done ++ (b ∷ [])) l ∙ ap body_of (joined_then done b (given l))
judging done (None ∷ l) = refl

-- THE JUDGEMENT of a body, symbol by symbol
pub judged_from : (xs : List ℕ) → body_of (unstuff xs) ≡ body_from 0 0 (symbols xs)
judged_from xs =
    ap body_of (symbols_given xs ∙ joined_none (given (symbols xs))) ∙ sym (judging [] (symbols xs)) ∙ ap (λ (r : ℕ). body_from 0 r (symbols xs)) step_none
  where
    joined_none : (u : Option (List ℕ)) → u ≡ joined [] u
    joined_none (Some p) = refl
    joined_none None = refl

module _ (xs left : List ℕ) (n register : ℕ) (i : body_from 0 0 (symbols xs) ≡ body_from n register (symbols left)) where
  pub judged_whole : symbols left ≡ [] → (let b : Option Body = Some (record { count = n; register = register }) in b) ≡ body_of (unstuff xs)
  judged_whole e = sym (judged_from xs ∙ i ∙ ap (body_from n register) e)

  pub judged_none : (l : List (Option ℕ)) → symbols left ≡ None ∷ l → (let b : Option Body = None in b) ≡ body_of (unstuff xs)
  judged_none l e = sym (judged_from xs ∙ i ∙ ap (body_from n register) e)

-- ---- the second walk: n payload bytes are laid over the start, and some symbols are left

pub record Undoes (whole : List (Option ℕ)) (before out : List ℕ) (n : ℕ) (left : List (Option ℕ)) : Type 0 where
  pub is : given left ≡ Some (payload_in (given left))
  pub fits : n + length (payload_in (given left)) ≤ length out
  pub counts : n + length (payload_in (given left)) ≡ length (payload_in (given whole))
  pub bytes : over (payload_in (given whole)) before ≡ pasted out n (payload_in (given left))

pub undoes_none : (xs out : List ℕ) → Room (unstuff xs) out → Undoes (symbols xs) out out 0 (symbols xs)
undoes_none xs out r =
    let e = symbols_given xs in
    let h : length (payload_in (given (symbols xs))) ≤ length out = omega (arith, r.fits, ap (λ (u : Option (List ℕ)). length (payload_in u)) e) in
    record {
      is = sym e ∙ r.is ∙ ap (λ (u : Option (List ℕ)). Some (payload_in u)) e;
      fits = omega (arith, h);
      counts = omega arith;
      bytes = sym (pasted_start (payload_in (given (symbols xs))) out);
    }

module _ (whole : List (Option ℕ)) (before out : List ℕ) (n : ℕ) where
  -- all payload bytes are laid
  pub undoes_end : (left : List ℕ) → length (payload_in (given whole)) ≤ n → Undoes whole before out n (symbols left)
      → out ≡ over (payload_in (given whole)) before
  undoes_end left h u = sym (u.bytes ∙ ap (pasted out n) (none (payload_in (given (symbols left))) (omega (arith, h, u.counts))) ∙ pasted_none out n)
    where
      none : (p : List ℕ) → length p ≡ 0 → p ≡ []
      none [] e = refl
      none (x ∷ xs) e = absurd (omega (arith, e))

  -- where not all are, some bytes of the body are left
  pub undoes_some : (left : List ℕ) → n < length (payload_in (given whole)) → Undoes whole before out n (symbols left) → 1 ≤ length left
  unfolding symbols
  undoes_some [] h u = absurd (omega (arith, h, u.counts))
  undoes_some (x ∷ xs) h u = omega arith

  -- the symbol at hand is one, since the body is sent for a payload
  pub undoes_not : (l : List (Option ℕ)) → Undoes whole before out n (None ∷ l) → ⊥
  undoes_not l u = absurd (let e : (let o : Option (List ℕ) = None in o) ≡ Some [] = u.is in cc)

  undoes_more : (b : ℕ) (l : List (Option ℕ)) → Undoes whole before out n (Some b ∷ l) → (n < length out) × Undoes whole before (set out n b) (n + 1) l
  undoes_more b l u = cases (given l) refl u.is u.fits u.counts u.bytes
    where
      cases : (v : Option (List ℕ)) → given l ≡ v → and_then b v ≡ Some (payload_in (and_then b v)) → n + length (payload_in (and_then b v)) ≤ length out
          → n + length (payload_in (and_then b v)) ≡ length (payload_in (given whole)) → over (payload_in (given whole)) before ≡ pasted out n (payload_in (and_then b v))
          → (n < length out) × Undoes whole before (set out n b) (n + 1) l
      cases None e i f c g = absurd (let z : (let o : Option (List ℕ) = None in o) ≡ Some [] = i in cc)
      cases (Some q) e i f c g =
          let p : given l ≡ Some (payload_in (given l)) = e ∙ ap (λ (u : Option (List ℕ)). Some (payload_in u)) (sym e) in
          let j : set out n b ≡ pasted out n (b ∷ []) = set_one out n b (omega arith) in
          let k : pasted (set out n b) (n + 1) q ≡ pasted out n (b ∷ q) = ap (λ (o : List ℕ). pasted o (n + 1) q) j ∙ pasted_join out n (b ∷ []) q (omega arith) in
          let m : (n + 1) + length q ≤ length (set out n b) = rw (length-set) (omega arith) in
          let d : (n + 1) + length q ≡ length (payload_in (given whole)) = omega (arith, c) in (
            omega arith,
            record {
              is = p;
              fits = rw (e) m;
              counts = rw (e) d;
              bytes = rw (e) (g ∙ sym k);
            },
          )

  plain_more : (x : ℕ) (l : List (Option ℕ)) (t : Bool) → Undoes whole before out n (cond t None (Some x) ∷ l) → (n < length out) × Undoes whole before (set out n x) (n + 1) l
  plain_more x l true u = absurd (undoes_not l u)
  plain_more x l false u = undoes_more x l u

  -- a pair, by its second byte
  pub record Paired (left : List ℕ) : Type 0 where
    pub long : 2 ≤ length left
    pub above : 0x20 ≤ get_or left 1 0
    pub room : n < length out
    pub more : Undoes whole before (set out n (get_or left 1 0 - 0x20)) (n + 1) (symbols (drop 2 left))

  pub undoes_pair : (xs : List ℕ) → Undoes whole before out n (symbols (0x13 ∷ xs)) → Paired (0x13 ∷ xs)
  unfolding symbols plain_of pair_of
  undoes_pair [] u = absurd (undoes_not [] u)
  undoes_pair (y ∷ ys) u = cases (eqb y 0x33) (eqb y 0x36) (eqb y 0x37) refl refl refl u
    where
      is : (k b : ℕ) → eqb y k ≡ true → k - 0x20 ≡ b → 0x20 ≤ k → Undoes whole before out n (Some b ∷ symbols ys) → Paired (0x13 ∷ y ∷ ys)
      is k b e f h u =
          let s : y ≡ k = eqb-true y k e in
          let g : y - 0x20 ≡ b = ap (λ (n : ℕ). n - 0x20) s ∙ f in
          let (r, m) = undoes_more b (symbols ys) u in
          record { long = omega arith; above = omega arith; room = r; more = rw (g) m }

      cases : (a b c : Bool) → eqb y 0x33 ≡ a → eqb y 0x36 ≡ b → eqb y 0x37 ≡ c → Undoes whole before out n (pair_by a b c ∷ symbols ys) → Paired (0x13 ∷ y ∷ ys)
      cases true b c e f g u = is 0x33 0x13 e refl (omega arith) u
      cases false true c e f g u = is 0x36 0x16 f refl (omega arith) u
      cases false false true e f g u = is 0x37 0x17 g refl (omega arith) u
      cases false false false e f g u = absurd (undoes_not (symbols ys) u)

  pub undoes_plain : (x : ℕ) (xs : List ℕ) → (x ≡ 0x13 → ⊥) → Undoes whole before out n (symbols (x ∷ xs)) → (n < length out) × Undoes whole before (set out n x) (n + 1) (symbols xs)
  unfolding symbols plain_of
  undoes_plain x [] z u = alone (eqb x 0x13) (ne_eqb x 0x13 z) (eqb x 0x16 || eqb x 0x17) u
    where
      alone : (a : Bool) → a ≡ false → (t : Bool) → Undoes whole before out n (cond (a || t) None (Some x) ∷ []) → (n < length out) × Undoes whole before (set out n x) (n + 1) []
      alone true e t u = absurd (true≢false e)
      alone false e t u = plain_more x [] t u
  undoes_plain x (y ∷ ys) z u = others (eqb x 0x13) (ne_eqb x 0x13 z) (eqb x 0x16 || eqb x 0x17) (pair_of y ∷ symbols ys) (symbols (y ∷ ys)) u
    where
      others : (a : Bool) → a ≡ false → (t : Bool) (m l : List (Option ℕ)) → Undoes whole before out n (cond a m (cond (a || t) None (Some x) ∷ l))
          → (n < length out) × Undoes whole before (set out n x) (n + 1) l
      others true e t m l u = absurd (true≢false e)
      others false e t m l u = plain_more x l t u

  module _ (h : n < length (payload_in (given whole))) where
    pub pair_here : (left : List ℕ) → Undoes whole before out n (symbols left) → get_or left 0 0 ≡ 0x13 → Paired left
    pair_here [] u e = absurd (omega (arith, e))
    pair_here (x ∷ xs) u e =
        let f = ap (λ (y : ℕ). y ∷ xs) e in
        subst Paired (sym f) (undoes_pair xs (subst (λ (l : List ℕ). Undoes whole before out n (symbols l)) f u))

    pub plain_here : (left : List ℕ) → Undoes whole before out n (symbols left) → (get_or left 0 0 ≡ 0x13 → ⊥)
        → (n < length out) × Undoes whole before (set out n (get_or left 0 0)) (n + 1) (symbols (drop 1 left))
    plain_here [] u z = absurd (omega (arith, undoes_some [] h u))
    plain_here (x ∷ xs) u z = undoes_plain x xs z u
