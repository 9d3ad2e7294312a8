-- By what the first walk tells: the check, and then the room.
use Rattle.std.proofs.Common.{rules, ◌≡◌, refl, ap, ◌<◌, ◌≤◌, ◌^◌, arith, true, false, Option, Some, Ok}
use Rattle.packet.specs.Substitution.{unstuff}
use Rattle.packet.specs.Steps.{payload_in, body_of}
use Rattle.packet.specs.declared.Body.{Body}
use Rattle.answer.proofs.Laws.{gives_refused, gives_as, gives_none, gives_good}
use Rattle.packet.proofs.Judging.{body_some, judged_by}
use Rattle.packet.proofs.read_body.Goals as goal

pub returns-then-ne : goal.returns-then-ne
returns-then-ne c =
    let a = c.args in
    let r = c.in_ok-count.field-0 in
    let found : (let b : Option Body = Some r in b) ≡ body_of (unstuff a.body.now) = search rules in
    let some : r.count ≡ 0 → ⊥ = search rules in
    let most : r.count ≤ 2048 = search rules in
    let small : c.step-check.result < 2 ^ 16 = search rules in
    let out = judged_by (unstuff a.body.now) r found some most a.a a.b c.step-check.result c.to_be_bytes.result true small c.step-check.ensures c.to_be_bytes.ensures c.if-ne.ensures in
    gives_refused _ _ a.out.now _ out refl

pub returns-then-out-count : goal.returns-then-out-count
returns-then-out-count c =
    let a = c.args in
    let r = c.in_ok-count.field-0 in
    let found : (let b : Option Body = Some r in b) ≡ body_of (unstuff a.body.now) = search rules in
    let some : r.count ≡ 0 → ⊥ = search rules in
    let most : r.count ≤ 2048 = search rules in
    let small : c.step-check.result < 2 ^ 16 = search rules in
    let out = judged_by (unstuff a.body.now) r found some most a.a a.b c.step-check.result c.to_be_bytes.result false small c.step-check.ensures c.to_be_bytes.ensures c.if-ne.ensures in
    let n = body_some (unstuff a.body.now) r found in
    gives_as a.out.now _ _ out (gives_none (payload_in (unstuff a.body.now)) a.out.now _ (omega (arith, n.1, c.if-out-count.true)) refl)

pub returns : goal.returns
returns c =
    let a = c.args in
    let r = c.in_ok-count.field-0 in
    let found : (let b : Option Body = Some r in b) ≡ body_of (unstuff a.body.now) = search rules in
    let some : r.count ≡ 0 → ⊥ = search rules in
    let most : r.count ≤ 2048 = search rules in
    let small : c.step-check.result < 2 ^ 16 = search rules in
    let out = judged_by (unstuff a.body.now) r found some most a.a a.b c.step-check.result c.to_be_bytes.result false small c.step-check.ensures c.to_be_bytes.ensures c.if-ne.ensures in
    let n = body_some (unstuff a.body.now) r found in
    gives_as a.out.now _ _ out (gives_good (payload_in (unstuff a.body.now)) a.out.now _ _ (omega (arith, n.1, c.if-out-count.false)) (ap Ok n.1) c.undo.ensures)
