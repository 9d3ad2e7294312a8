-- `picking::pick` meets its contract: both lists are good, and what is picked is measured and then written.
use Rattle.std.proofs.Common.{rules}
use native.Mathlib.Omega.{arith}
use Rattle.objects.proofs.OnlyForm.{bytes_known}
use Rattle.picking.specs.Lists.{tags_refusal, objects_refusal}
use Rattle.picking.proofs.Walking.{no_fault, picks_none, picks_all}
use Rattle.picking.proofs.pick.Goals as goal

pub returns-in_err-measure : goal.returns-in_err-measure
returns-in_err-measure c =
    let a = c.args in
    let known = c.type_inv.objects in
    let t = no_fault (tags_refusal a.tags.now) (search rules) in
    let o = no_fault (objects_refusal a.objects.now) (search rules) in
    picks_none a.tags.now a.objects.now a.out.now (bytes_known a.objects.now (λ i. omega (arith, known i))) t o c.in_err-measure.field-0.0 c.from_residual-in_err-measure.result (search rules) (search rules)

pub returns : goal.returns
returns c =
    let a = c.args in
    let known = c.type_inv.objects in
    let t = no_fault (tags_refusal a.tags.now) (search rules) in
    let o = no_fault (objects_refusal a.objects.now) (search rules) in
    picks_all a.tags.now a.objects.now a.out.now (bytes_known a.objects.now (λ i. omega (arith, known i))) t o c.write.result c.write.new.out (search rules) c.write.ensures
