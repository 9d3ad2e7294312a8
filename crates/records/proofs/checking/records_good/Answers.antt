-- `records::checking::records_good` meets its contract: a record is passed, or does not pass.
use mathlib.Core.Path.{sym, ◌∙◌}
use native.Mathlib.Omega.{arith}
use Rattle.records.proofs.Checks.{good_not, seen_more, count_more, every_more, seen_fits, count_fits}
use Rattle.records.proofs.checking.records_good.Goals as goal

pub returns-then-not-passes : goal.returns-then-not-passes
returns-then-not-passes c =
    let l = c.loop-piece in let a = c.args in let i = l.invariant in
    good_not a.network a.records a.bytes.now l.piece-iterator.rest.now l.seen l.count i.2 i.3 i.4 c.in-Some.piece.now c.next.new.self.rest.now c.in-Some.ensures.steps
    (sym c.passes.ensures ∙ c.if-not-passes.true)

pub overflow_add-seen : goal.overflow_add-seen
overflow_add-seen c =
    let l = c.loop-piece in let a = c.args in let i = l.invariant in
    let h = seen_fits a.network a.records a.bytes.now l.piece-iterator.rest.now l.seen l.count i.2 i.3 i.4 c.in-Some.piece.now c.next.new.self.rest.now c.in-Some.ensures.steps in
    omega arith

pub overflow_add-count : goal.overflow_add-count
overflow_add-count c =
    let l = c.loop-piece in let a = c.args in let i = l.invariant in
    let h = count_fits a.network a.records a.bytes.now l.piece-iterator.rest.now l.seen l.count i.2 i.3 i.4 c.in-Some.piece.now c.next.new.self.rest.now c.in-Some.ensures.steps in
    omega arith

pub loop-piece-preserved : goal.loop-piece-preserved
loop-piece-preserved c =
    let l = c.loop-piece in let a = c.args in let i = l.invariant in
    let s = seen_more a.network a.records a.bytes.now l.piece-iterator.rest.now l.seen l.count i.2 i.3 i.4 c.in-Some.piece.now c.next.new.self.rest.now c.in-Some.ensures.steps in
    let n = count_more a.network a.records a.bytes.now l.piece-iterator.rest.now l.seen l.count i.2 i.3 i.4 c.in-Some.piece.now c.next.new.self.rest.now c.in-Some.ensures.steps in
    let e = every_more a.network a.records a.bytes.now l.piece-iterator.rest.now l.seen l.count i.2 i.3 i.4 c.in-Some.piece.now c.next.new.self.rest.now c.in-Some.ensures.steps
    (sym c.passes.ensures ∙ c.if-not-passes.false) in
    (tt, tt, s, n, e)
