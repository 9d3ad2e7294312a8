-- A pair has its second byte, 20h or more, and each byte its room.
use Rattle.std.proofs.Common.{rules, ◌≡◌, sym, ap, ◌∙◌, ◌<◌, ◌≤◌, arith, ℕ, List, Option, length, drop, Bor}
use Rattle.answer.specs.Answers.{over}
use Rattle.answer.proofs.Parts.{rest_part}
use Rattle.packet.specs.Substitution.{unstuff}
use Rattle.packet.specs.Steps.{symbols, payload_in}
use Rattle.packet.proofs.Reading.{given, symbols_given, undoes_none, undoes_some, undoes_end, pair_here, plain_here}
use Rattle.packet.proofs.undo.Goals as goal
use Rattle.packet.proofs.undo.Goals.{then-x-eq19, else-x-eq19}

-- the numbers that are left are the places of payload bytes
counted : (body : List ℕ) (count : ℕ) → count ≡ length (payload_in (unstuff body)) → count ≡ length (payload_in (given (symbols body)))
counted body count e = e ∙ ap (λ (p : Option (List ℕ)). length (payload_in p)) (symbols_given body)

more_left : (body : List ℕ) (count n : ℕ) → count ≡ length (payload_in (unstuff body)) → n < count → n < length (payload_in (given (symbols body)))
more_left body count n e h = omega (arith, h, counted body count e)

pub loop-n-init : goal.loop-n-init
loop-n-init c = undoes_none c.args.body.now c.args.out.now c.requires.room

pub bounds-left-0 : goal.bounds-left-0
bounds-left-0 c =
    let l = c.loop-n in
    let body = c.args.body.now in
    let m = more_left body c.args.count l.n c.requires.counted c.loop-n-test.true in
    let h = undoes_some (symbols body) c.args.out.now l.out l.n l.left.now m l.invariant in
    omega (arith, h)

pub bounds-left-1 : goal.bounds-left-1
bounds-left-1 c =
    let l = c.loop-n in
    let body = c.args.body.now in
    let m = more_left body c.args.count l.n c.requires.counted c.loop-n-test.true in
    let p = pair_here (symbols body) c.args.out.now l.out l.n m l.left.now l.invariant c.if-x-eq19.true in
    let h : 1 < length l.left.now = p.long in
    search rules

pub overflow_sub-out : goal.overflow_sub-out
overflow_sub-out c =
    let l = c.loop-n in
    let body = c.args.body.now in
    let m = more_left body c.args.count l.n c.requires.counted c.loop-n-test.true in
    let p = pair_here (symbols body) c.args.out.now l.out l.n m l.left.now l.invariant c.if-x-eq19.true in
    p.above

pub slice_bounds-left-count : goal.slice_bounds-left-count
slice_bounds-left-count c =
    let l = c.loop-n in
    let body = c.args.body.now in
    let m = more_left body c.args.count l.n c.requires.counted c.loop-n-test.true in
    let p = pair_here (symbols body) c.args.out.now l.out l.n m l.left.now l.invariant c.if-x-eq19.true in
    p.long

pub slice_bounds-left-start : goal.slice_bounds-left-start
slice_bounds-left-start c =
    let h = slice_bounds-left-count c in
    search rules

pub slice_bounds-left-count-else-x-eq19 : goal.slice_bounds-left-count-else-x-eq19
slice_bounds-left-count-else-x-eq19 c =
    let l = c.loop-n in
    let body = c.args.body.now in
    let m = more_left body c.args.count l.n c.requires.counted c.loop-n-test.true in
    undoes_some (symbols body) c.args.out.now l.out l.n l.left.now m l.invariant

pub slice_bounds-left-start-else-x-eq19 : goal.slice_bounds-left-start-else-x-eq19
slice_bounds-left-start-else-x-eq19 c =
    let h = slice_bounds-left-count-else-x-eq19 c in
    search rules

pub loop-n-preserved : goal.loop-n-preserved
loop-n-preserved c =
    let l = c.loop-n in
    let body = c.args.body.now in
    let m = more_left body c.args.count l.n c.requires.counted c.loop-n-test.true in
    elim c.if-x-eq19.branch [
      | then-x-eq19 w ↦
          let p = pair_here (symbols body) c.args.out.now l.out l.n m l.left.now l.invariant w.if-x-eq19.true in
          let k : c.if-x-eq19.left.now ≡ drop 2 l.left.now = ap (λ (b : Bor (List ℕ)). b.now) w.left-is ∙ rest_part l.left.now 2 in
          rw (w.out-is, k) p.more
      | else-x-eq19 w ↦
          let p = plain_here (symbols body) c.args.out.now l.out l.n m l.left.now l.invariant w.if-x-eq19.false in
          let k : c.if-x-eq19.left.now ≡ drop 1 l.left.now = ap (λ (b : Bor (List ℕ)). b.now) w.left-is ∙ rest_part l.left.now 1 in
          rw (w.out-is, k) p.1
    ]

pub returns : goal.returns
returns c =
    let l = c.loop-n in
    let body = c.args.body.now in
    let end : length (payload_in (given (symbols body))) ≤ l.n = omega (arith, c.loop-n-test.false, counted body c.args.count c.requires.counted) in
    undoes_end (symbols body) c.args.out.now l.out l.n l.left.now end l.invariant
    ∙ ap (λ (p : Option (List ℕ)). over (payload_in p) c.args.out.now) (sym (symbols_given body))
