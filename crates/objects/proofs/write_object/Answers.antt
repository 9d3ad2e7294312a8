-- `objects::write_object` meets its contract: the three parts stand next to one another.
use Rattle.std.proofs.Common.{rules, ◌≡◌, ◌≤◌, length, ap, ◌∙◌, subst, ℕ}
use native.Mathlib.Omega.{arith}
use Rattle.answer.specs.Laid.{PutIf}
use Rattle.objects.specs.LengthForm.{form_of}
use Rattle.objects.proofs.Objects.{object_length}
use Rattle.objects.proofs.Writing.{writes_object}
use Rattle.objects.proofs.write_object.Goals as goal

pub returns : goal.returns
returns c =
    let a = c.args in
    let n : c.in_ok-n.n ≡ length a.value.now = search rules in
    let small : length a.value.now ≤ 65535 = search rules in
    let l = object_length a.tag.now a.value.now in
    let form = subst (λ (k : ℕ). PutIf c.put-after_tag.new.out c.put-after_tag.result (form_of k) c.put_form-after_form.result c.put_form-after_form.new.out) n c.put_form-after_form.ensures in
    let s = c.form_size.ensures.0 ∙ ap (λ (k : ℕ). length (form_of k)) n in
    writes_object a.tag.now a.value.now a.out.now c.put-after_tag.result c.put-after_tag.new.out c.put_form-after_form.result c.put_form-after_form.new.out c.put.result c.put.new.out
    (search rules) small (omega (arith, c.if-out-tag.false)) c.put-after_tag.ensures form c.put.ensures
