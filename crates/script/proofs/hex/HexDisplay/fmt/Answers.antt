-- A turn writes the digits of one more piece.
use Rattle.std.proofs.Common.{rules, ◌≡◌, ℕ, List, ◌++◌, sym, ap, ◌∙◌, append_assoc}
use Rattle.std.proofs.Output.{has_written_append}
use Rattle.std.proofs.lemmas.List.Concat.{flat_map-append}
use Rattle.std.proofs.lemmas.Str.{IsUtf8-from_ascii}
use Rattle.std.specs.List.{flat_map}
use Rattle.std.specs.Slice.Iter.{chunks_rest}
use Rattle.script.specs.Shown.{two_digits}
use Rattle.script.proofs.hex.HexDisplay.fmt.Goals as goal

pub unreachable-requires : goal.unreachable-requires
unreachable-requires g c = c.in_default.ensures.cases.0 (IsUtf8-from_ascii c.put_digits.new.digits c.put_digits.ensures.ascii)

pub loop-piece-preserved : goal.loop-piece-preserved
loop-piece-preserved g c =
    let piece = c.in-Some.piece.now in
    let steps = c.in-Some.ensures.steps in
    let size = c.loop-piece.invariant.2 in
    let shown : c.in-Ok.text.now ≡ flat_map two_digits piece = c.in-Ok.ensures.cases.0 ∙ c.put_digits.ensures.value in (
      search rules,
      tt,
      search rules,
      λ plain.
          let so_far = c.loop-piece.invariant.3 plain in (
            so_far.0 ++ c.in-Ok.text.now,
            has_written_append _ _ _ _ _ _ so_far.1 (search rules),
            append_assoc so_far.0 _ _
                ∙ ap (λ (t : List ℕ). so_far.0 ++ t)
                (rw shown (sym (flat_map-append two_digits piece (chunks_rest c.next.new.self)) ∙ ap (flat_map two_digits) (sym steps.1.0)))
                ∙ so_far.2,
          ),
    )
