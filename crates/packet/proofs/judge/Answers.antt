-- A symbol that stands for none ends the walk; at its end no symbol is left.
use Rattle.std.proofs.Common.{rules, ap, ◌∙◌, ◌≤◌, ◌∷◌, length}
use Rattle.packet.specs.Steps.{symbols}
use Rattle.packet.proofs.Reading.{judged_whole, judged_none, symbols_short}
use Rattle.packet.proofs.judge.Goals as goal

pub loop-symbol-init : goal.loop-symbol-init
loop-symbol-init c =
    let e = c.into_iter-symbol-iterator.ensures.into_iter_gives in
    let h : length (symbols c.args.body.now) ≤ length c.args.body.now = symbols_short c.args.body.now in
    search rules

pub returns-in_err-symbol : goal.returns-in_err-symbol
returns-in_err-symbol c =
    let l = c.loop-symbol in
    let left = symbols c.next.new.self.rest.now in
    let none = judged_none c.args.body.now l.symbol-iterator.rest.now l.count l.register l.invariant.3 left (c.in-Some.ensures.steps ∙ ap (λ s. s ∷ left) c.in_err-symbol.was) in
    search rules

pub returns : goal.returns
returns c =
    let l = c.loop-symbol in
    judged_whole c.args.body.now l.symbol-iterator.rest.now l.count l.register l.invariant.3 c.in-None.ensures.steps.0
