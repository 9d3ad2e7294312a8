-- `device::replying::send` meets its contract: a response's packet fits.
use Rattle.std.proofs.Common.{rules, ◌≡◌, refl, sym, subst, ℕ, arith, length, take}
use Rattle.std.specs.Result.{IsOk}
use Rattle.std.specs.Prelude.{Result}
use lib.Seq.{length-take-le}
use Rattle.answer.specs.declared.refusal.Refusal.{Refusal}
use Rattle.device.proofs.Sending.{sent_whole}
use Rattle.device.proofs.replying.send.Goals as goal

pub unwrap-requires : goal.unwrap-requires
unwrap-requires c =
    let r = c.args.response.now in
    let long : length r.payload ≡ 19 = search rules in
    let l : length (take r.length r.payload) ≡ r.length = length-take-le r.length r.payload (omega arith) in
    let w = c.write_packet in
    let e = sent_whole (take r.length r.payload) c.args.out.now w.result w.new.out (omega (arith, l)) (omega (arith, l)) (omega arith) w.ensures in
    subst (λ (q : Result ℕ Refusal). IsOk q) (sym e.0) refl
