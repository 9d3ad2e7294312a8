-- The digits of bytes are of ASCII.
use Rattle.std.proofs.Common.{rules, arith, ◌<◌, ◌*◌, ◌/◌, ◌%◌, true, ℕ, List, [], ◌∷◌, suc, get_or, sym, ap, ◌∙◌}
use Rattle.std.proofs.lemmas.Bool.Decides.{nat_tests}
use Rattle.std.proofs.lemmas.List.{take_all}
use Rattle.std.proofs.lemmas.Str.Ascii.{IsAscii-nil, IsAscii-cons}
use Rattle.std.specs.Fmt.{digit_glyph}
use Rattle.std.specs.List.{flat_map}
use Rattle.std.specs.Str.{IsAscii}
use Rattle.script.specs.Shown.{two_digits}
use Rattle.script.proofs.hex.put_digits.Goals as goal

glyph_small : (d : ℕ) → d < 16 → digit_glyph true d < 128
glyph_small d small = grind (arith, nat_tests)

digits_ascii : (bytes : List ℕ) → ((i : ℕ) → get_or bytes i 0 < 256) → IsAscii (flat_map two_digits bytes)
digits_ascii [] small = IsAscii-nil
digits_ascii (b ∷ more) small =
    let high = glyph_small (b / 16) (omega (arith, small 0)) in
    let low = glyph_small (b % 16) (omega arith) in
    let rest = digits_ascii more (λ i. small (suc i)) in
    IsAscii-cons _ (digit_glyph true (b % 16) ∷ flat_map two_digits more) high (IsAscii-cons _ _ low rest)

pub returns-clause-ascii : goal.returns-clause-ascii
returns-clause-ascii c =
    let left = take_all (2 * c.loop-i.i) c.loop-i.digits (omega arith) in
    let right = take_all c.loop-i.i c.args.bytes.now (omega arith) in
    let whole = sym left ∙ c.loop-i.invariant.value ∙ ap (flat_map two_digits) right in
    rw (sym whole) at (digits_ascii c.args.bytes.now (λ i. search rules))
