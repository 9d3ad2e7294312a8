-- `gathering::gather` meets its contract. The invariant: what is gathered of the whole piece is what is gathered of the rest from here.
use mathlib.Core.Path.{◌≡◌, sym, ap, ◌∙◌}
use Prim.Native.Nat.{ℕ}
use mathlib.Core.Bool.{true, false}
use native.Mathlib.Omega.{arith}
use lib.ListN.{length}
use Rattle.gathering.specs.Gathering.{got_as}
use Rattle.gathering.proofs.Kept.{gathers, placed_long, gather_last, gather_more, gather_none}
use Rattle.gathering.proofs.gather.Goals as goal

pub returns-then-asks : goal.returns-then-asks
returns-then-asks c =
    let l = c.loop-i in
    let a = c.args in
    let e = sym c.asks.ensures ∙ c.if-asks.true in
    gathers _ _ _ _ true _ (l.invariant.1 ∙ gather_last a.resend l.at l.store l.i a.piece.now (omega arith) e)

pub loop-i-preserved : goal.loop-i-preserved
loop-i-preserved c =
    let l = c.loop-i in
    let a = c.args in
    let e = sym c.asks.ensures ∙ c.if-asks.false in
    let k = c.take-took.ensures.whole in
    let s = simp k at c.place.ensures in
    let n = placed_long l.store c.take-took.result.told in (
      ap length c.place.ensures ∙ n ∙ l.invariant.0,
      simp (k, s) (l.invariant.1 ∙ gather_more a.resend l.at l.store l.i a.piece.now (omega arith) e),
    )

pub returns : goal.returns
returns c =
    let l = c.loop-i in
    let a = c.args in
    let e : l.i ≡ length a.piece.now = omega arith in
    gathers _ _ _ _ false 0 (l.invariant.1 ∙ gather_none a.resend l.at l.store l.i a.piece.now (omega arith) ∙ ap (λ (n : ℕ). got_as l.at l.store n false 0) e)
