-- The layouts of the commands, as the code tells them.
use mathlib.Core.Path.{◌≡◌, refl, sym, ap, ◌∙◌}
use mathlib.Core.Bool.{Bool, true, false, ◌&&◌, cond, true≢false}
use mathlib.Core.List.{List}
use Prim.Native.Nat.{ℕ, ◌-◌, ◌≤◌, ◌<◌}
use native.Mathlib.Omega.{arith}
use lib.ListN.{length, get_or, take, drop, length-drop, drop_of_length-le}
use lib.Seq.{get_or-drop}
use lib.Dec.{leb, eqb}
use borrow.Author.Tests.{eq-eqb, ne_eqb, eqb-true, le-leb, lt-leb}
use Rattle.std.specs.Prelude.{Option, Some, None}
use Rattle.std.specs.Bool.{then_some}
use Rattle.answer.specs.Digits.{is_digit, two_digits_at, three_at, two_in, three_in}
use Rattle.answer.proofs.Parts.{and_false, rest_part}
use Rattle.records.specs.Record.{good_block}
use Rattle.command.specs.declared.Command.TheVariants.{Gts, GtsWrong, Tli, TliWrong}
use Rattle.command.specs.Texts.{ascii, starts, all_text}
use Rattle.command.specs.Command.{network_at, network_of, gts_good, tli_good, tlr_good, gts_of, tli_of}
use Rattle.command.specs.Steps.{network_in}

told : (d : Bool) (m n : ℕ) → (let o : Option ℕ = Some n in o) ≡ cond d (Some m) None → (d ≡ true) × (n ≡ m)
told true m n e = (refl, cc)
told false m n e = absurd cc

untold : (d : Bool) (m : ℕ) → (let o : Option ℕ = None in o) ≡ cond d (Some m) None → d ≡ false
untold true m e = absurd cc
untold false m e = refl

then_same : (t : Bool) (n : ℕ) → then_some t n ≡ cond t (Some n) None
then_same true n = refl
then_same false n = refl

-- ---- a network

module _ (p : List ℕ) where
  -- what `&p[6..]` hands over
  abbrev part : List ℕ
  part = take (length p - 6) (drop 6 p)

  at_six : (is_digit (get_or part 0 0) && is_digit (get_or part 1 0)) ≡ network_at p
  at_six = rw (rest_part p 6, get_or-drop 6 p 0 0, get_or-drop 6 p 1 0) refl

  of_six : two_digits_at part 0 ≡ network_of p
  of_six = rw (rest_part p 6, get_or-drop 6 p 0 0, get_or-drop 6 p 1 0) refl

  module _ (head : List ℕ) (n : ℕ) where
    pub other_length : (length p ≡ n → ⊥) → (let o : Option ℕ = None in o) ≡ network_in head n p
    unfolding network_in
    other_length h = rw (ne_eqb (length p) n h) refl

    pub other_head : starts head p ≡ false → (let o : Option ℕ = None in o) ≡ network_in head n p
    unfolding network_in
    other_head e = rw (e, and_false (eqb (length p) n)) refl

    pub other_digits : (let o : Option ℕ = None in o) ≡ two_in (take (length p - 6) (drop 6 p)) → (let o : Option ℕ = None in o) ≡ network_in head n p
    unfolding network_in two_in
    other_digits e =
        let d = sym at_six ∙ untold (is_digit (get_or part 0 0) && is_digit (get_or part 1 0)) (two_digits_at part 0) e in
        rw (d, and_false (starts head p), and_false (eqb (length p) n)) refl

    pub network_told : length p ≡ n → starts head p ≡ true → (w : ℕ) → (let o : Option ℕ = Some w in o) ≡ two_in (take (length p - 6) (drop 6 p))
        → then_some (all_text (take (length p - 8) (drop 8 p))) w ≡ network_in head n p
    unfolding network_in two_in
    network_told l e w f =
        let d = told (is_digit (get_or part 0 0) && is_digit (get_or part 1 0)) (two_digits_at part 0) w f in
        let g = sym at_six ∙ d.0 in
        let k = d.1 ∙ of_six in
        rw (rest_part p 8, eq-eqb (length p) n l, e, g, k) (then_same (all_text (drop 8 p)) (network_of p))

  -- after the network of GTS nothing stands
  gts_same : (eqb (length p) 8 && (starts (ascii "GTS002") p && (network_at p && all_text (drop 8 p)))) ≡ gts_good p
  unfolding gts_good all_text
  gts_same = cases (eqb (length p) 8) refl
    where
      cases : (t : Bool) → eqb (length p) 8 ≡ t → (t && (starts (ascii "GTS002") p && (network_at p && all_text (drop 8 p)))) ≡ (t && (starts (ascii "GTS002") p && network_at p))
      cases true e =
          let l = eqb-true (length p) 8 e in
          rw (drop_of_length-le p {i = 8} (omega arith)) (ap (λ (b : Bool). starts (ascii "GTS002") p && b) (and_one (network_at p)))
        where
          and_one : (b : Bool) → (b && true) ≡ b
          and_one true = refl
          and_one false = refl
      cases false e = refl

  pub gts_some : (w : ℕ) → (let o : Option ℕ = Some w in o) ≡ network_in (ascii "GTS002") 8 p → Gts w ≡ gts_of p
  unfolding network_in
  gts_some w e =
      let d = told (eqb (length p) 8 && (starts (ascii "GTS002") p && (network_at p && all_text (drop 8 p)))) (network_of p) w e in
      sym (rw (sym gts_same ∙ d.0) (ap Gts (sym d.1)))

  pub gts_none : (let o : Option ℕ = None in o) ≡ network_in (ascii "GTS002") 8 p → GtsWrong ≡ gts_of p
  unfolding network_in
  gts_none e = sym (rw (sym gts_same ∙ untold (eqb (length p) 8 && (starts (ascii "GTS002") p && (network_at p && all_text (drop 8 p)))) (network_of p) e) refl)

  pub tli_some : (w : ℕ) → (let o : Option ℕ = Some w in o) ≡ network_in (ascii "TLI012") 18 p → Tli w ≡ tli_of p
  unfolding network_in tli_good
  tli_some w e =
      let d = told (eqb (length p) 18 && (starts (ascii "TLI012") p && (network_at p && all_text (drop 8 p)))) (network_of p) w e in
      sym (rw d.0 (ap Tli (sym d.1)))

  pub tli_none : (let o : Option ℕ = None in o) ≡ network_in (ascii "TLI012") 18 p → TliWrong ≡ tli_of p
  unfolding network_in tli_good
  tli_none e = sym (rw (untold (eqb (length p) 18 && (starts (ascii "TLI012") p && (network_at p && all_text (drop 8 p)))) (network_of p) e) refl)

-- ---- TLR

tlr_off : (l a b c x : Bool) → (a && (b && c)) ≡ false → false ≡ (l && (a && (b && (c && x))))
tlr_off l true true true x e = absurd (true≢false e)
tlr_off l true true false x e = sym (and_false l)
tlr_off l true false c x e = sym (and_false l)
tlr_off l false b c x e = sym (and_false l)

tlr_on : (a b c x : Bool) → (a && (b && c)) ≡ true → x ≡ (a && (b && (c && x)))
tlr_on true true true x e = refl
tlr_on true true false x e = absurd (true≢false (sym e))
tlr_on true false c x e = absurd (true≢false (sym e))
tlr_on false b c x e = absurd (true≢false (sym e))

module _ (p : List ℕ) where
  -- what `&p[3..]` hands over
  abbrev told_part : List ℕ
  told_part = take (length p - 3) (drop 3 p)

  at_three : (is_digit (get_or told_part 0 0) && (is_digit (get_or told_part 1 0) && is_digit (get_or told_part 2 0)))
      ≡ (is_digit (get_or p 3 0) && (is_digit (get_or p 4 0) && is_digit (get_or p 5 0)))
  at_three = rw (rest_part p 3, get_or-drop 3 p 0 0, get_or-drop 3 p 1 0, get_or-drop 3 p 2 0) refl

  pub tlr_short : length p < 6 → false ≡ tlr_good p
  unfolding tlr_good
  tlr_short h = rw (lt-leb 6 (length p) h) refl

  pub tlr_untold : (let o : Option ℕ = None in o) ≡ three_in (take (length p - 3) (drop 3 p)) → false ≡ tlr_good p
  unfolding tlr_good three_in
  tlr_untold e =
      let d = sym at_three ∙ untold (is_digit (get_or told_part 0 0) && (is_digit (get_or told_part 1 0) && is_digit (get_or told_part 2 0))) (three_at told_part) e in
      tlr_off (leb 6 (length p)) (is_digit (get_or p 3 0)) (is_digit (get_or p 4 0)) (is_digit (get_or p 5 0)) (eqb (three_at (drop 3 p)) (length (drop 6 p)) && good_block (drop 6 p)) d

  pub tlr_told : 6 ≤ length p → (n : ℕ) → (let o : Option ℕ = Some n in o) ≡ three_in (take (length p - 3) (drop 3 p))
      → (eqb n (length p - 6) && good_block (take (length p - 6) (drop 6 p))) ≡ tlr_good p
  unfolding tlr_good three_in
  tlr_told h n e =
      let d = told (is_digit (get_or told_part 0 0) && (is_digit (get_or told_part 1 0) && is_digit (get_or told_part 2 0))) (three_at told_part) n e in
      let g = sym at_three ∙ d.0 in
      let k : n ≡ three_at (drop 3 p) = d.1 ∙ ap three_at (rest_part p 3) in
      rw (rest_part p 6, k, sym (length-drop 6 p), le-leb 6 (length p) h)
      (tlr_on (is_digit (get_or p 3 0)) (is_digit (get_or p 4 0)) (is_digit (get_or p 5 0)) (eqb (three_at (drop 3 p)) (length (drop 6 p)) && good_block (drop 6 p)) g)
