-- What a payload that commands something holds: a network below 100, a version of ten text bytes, a good block.
use mathlib.Core.Path.{◌≡◌, refl, subst}
use mathlib.Core.Bool.{Bool, true, false, ◌&&◌, cond}
use mathlib.Core.List.{List}
use Prim.Native.Nat.{ℕ, ◌≤◌, ◌<◌}
use lib.ListN.{length, get_or, drop}
use lib.Dec.{leb, eqb}
use borrow.Author.Tests.{eqb-true, leb-true}
use Rattle.answer.specs.Digits.{is_digit, three_at}
use native.Mathlib.Omega.{arith}
use Rattle.answer.proofs.DigitLaws.{digit_nine}
use Rattle.answer.proofs.Parts.{and_left, and_right}
use Rattle.records.specs.Record.{good_block, records_of}
use Rattle.tables.specs.Loading.{taken, taken_of}
use Rattle.command.specs.declared.Command.{Command}
use Rattle.command.specs.declared.Command.TheVariants.{Opn, Gts, GtsWrong, Tli, TliWrong, Tlr, TlrWrong, Tle, Unknown}
use Rattle.command.specs.Texts.{ascii, starts, all_text}
use Rattle.command.specs.Command.{network_at, network_of, gts_good, tli_good, tlr_good, gts_of, tli_of, tlr_of, opn_of, tle_of, command_of}

network_small : (p : List ℕ) → network_at p ≡ true → network_of p < 100
network_small p e =
    let a = digit_nine (get_or p 6 0) (and_left (is_digit (get_or p 6 0)) (is_digit (get_or p 7 0)) e) in
    let b = digit_nine (get_or p 7 0) (and_right (is_digit (get_or p 6 0)) (is_digit (get_or p 7 0)) e) in
    omega arith

-- what the payload of a command holds
abbrev Holding : List ℕ → Command → Type 0
Holding p Opn = Unit {0}
Holding p (Gts n) = n < 100
Holding p GtsWrong = Unit {0}
Holding p (Tli n) = (n < 100) × (length p ≡ 18) × (all_text (drop 8 p) ≡ true)
Holding p TliWrong = Unit {0}
Holding p Tlr = (6 ≤ length p) × (good_block (drop 6 p) ≡ true)
Holding p TlrWrong = Unit {0}
Holding p Tle = Unit {0}
Holding p Unknown = Unit {0}

-- ---- by name

module _ (p : List ℕ) where
  -- what holds of both commands holds of the one that a test picks
  either : (t : Bool) (c d : Command) → (t ≡ true → Holding p c) → Holding p d → Holding p (cond t c d)
  either true c d f g = f refl
  either false c d f g = g

  of_opn : Holding p (opn_of p)
  of_opn = either (eqb (length p) 3) Opn Unknown (λ e. tt) tt

  of_tle : Holding p (tle_of p)
  of_tle = either (eqb (length p) 3) Tle Unknown (λ e. tt) tt

  gts_holds : gts_good p ≡ true → network_of p < 100
  unfolding gts_good
  gts_holds e =
      network_small p (and_right (starts (ascii "GTS002") p) (network_at p) (and_right (eqb (length p) 8) (starts (ascii "GTS002") p && network_at p) e))

  of_gts : Holding p (gts_of p)
  of_gts = either (gts_good p) (Gts (network_of p)) GtsWrong gts_holds tt

  tli_holds : tli_good p ≡ true → (network_of p < 100) × (length p ≡ 18) × (all_text (drop 8 p) ≡ true)
  unfolding tli_good
  tli_holds e =
      let s = starts (ascii "TLI012") p in
      let n = network_at p in
      let t = all_text (drop 8 p) in
      let f = and_right s (n && t) (and_right (eqb (length p) 18) (s && (n && t)) e) in
      (network_small p (and_left n t f), eqb-true (length p) 18 (and_left (eqb (length p) 18) (s && (n && t)) e), and_right n t f)

  of_tli : Holding p (tli_of p)
  of_tli = either (tli_good p) (Tli (network_of p)) TliWrong tli_holds tt

  tlr_holds : tlr_good p ≡ true → (6 ≤ length p) × (good_block (drop 6 p) ≡ true)
  unfolding tlr_good
  tlr_holds e =
      let l = leb 6 (length p) in
      let a = is_digit (get_or p 3 0) in
      let b = is_digit (get_or p 4 0) in
      let c = is_digit (get_or p 5 0) in
      let n = eqb (three_at (drop 3 p)) (length (drop 6 p)) in
      let g = good_block (drop 6 p) in (
        leb-true 6 (length p) (and_left l (a && (b && (c && (n && g)))) e),
        and_right n g (and_right c (n && g) (and_right b (c && (n && g)) (and_right a (b && (c && (n && g))) (and_right l (a && (b && (c && (n && g)))) e)))),
      )

  of_tlr : Holding p (tlr_of p)
  of_tlr = either (tlr_good p) Tlr TlrWrong tlr_holds tt

  -- the command of a payload
  holding : Holding p (command_of p)
  unfolding command_of
  holding =
      either (starts (ascii "OPN") p) _ _ (λ e. of_opn)
      (either (starts (ascii "GTS") p) _ _ (λ e. of_gts)
      (either (starts (ascii "TLI") p) _ _ (λ e. of_tli)
      (either (starts (ascii "TLR") p) _ _ (λ e. of_tlr)
      (either (starts (ascii "TLE") p) _ _ (λ e. of_tle)
      tt))))

-- ---- what a caller knows

-- GTS names a network 00 to 99
pub gts_network : (p : List ℕ) (n : ℕ) → command_of p ≡ Gts n → n < 100
gts_network p n e = subst (Holding p) e (holding p)

-- TLI names a network 00 to 99
pub tli_network : (p : List ℕ) (n : ℕ) → command_of p ≡ Tli n → n < 100
tli_network p n e = (subst (Holding p) e (holding p)).0

-- TLI has 18 bytes
pub tli_long : (p : List ℕ) (n : ℕ) → command_of p ≡ Tli n → length p ≡ 18
tli_long p n e = (subst (Holding p) e (holding p)).1

-- TLR has its name and its length at least
pub tlr_long : (p : List ℕ) → command_of p ≡ Tlr → 6 ≤ length p
tlr_long p e = (subst (Holding p) e (holding p)).0

-- TLR's block is good
pub tlr_block : (p : List ℕ) → command_of p ≡ Tlr → good_block (drop 6 p) ≡ true
tlr_block p e = (subst (Holding p) e (holding p)).1

-- TLI's version is bytes 20h to 7Eh
pub tli_text : (p : List ℕ) (n : ℕ) → command_of p ≡ Tli n → all_text (drop 8 p) ≡ true
tli_text p n e = (subst (Holding p) e (holding p)).2

-- of a good block a load takes what is not skipped
pub taken_is : (n : ℕ) (block : List ℕ) → good_block block ≡ true → taken_of n block ≡ taken n (records_of block)
unfolding taken_of
taken_is n block g = rw g refl
