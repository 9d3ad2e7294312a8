-- Each byte is sent as at most two, so the sum fits.
use Rattle.std.proofs.Common.{rules, tests, of_calls, ◌≡◌, ◌<◌, ◌^◌, arith, length}
use Rattle.std.specs.Prelude.{sum_by}
use Rattle.std.proofs.lemmas.Iterator.{YieldsList-from_slice, YieldsList-from_map}
use Rattle.std.proofs.lemmas.Iterator.Consumers.{fits_by_from_yields_list}
use Rattle.packet.specs.Substitution.{sent}
use Rattle.packet.proofs.Stuffing.{stuff_sum, stuff_two, packet_long}
use Rattle.packet.proofs.packet_length.Goals as goal

pub sum-requires : goal.sum-requires
sum-requires c =
    let p = c.args.payload.now in
    let small : sum_by (λ b. length (sent b)) p < 2 ^ 64 = omega (arith, stuff_sum p, stuff_two p, c.requires) in
    record { can = search of_calls; finite = search of_calls; fits = fits_by_from_yields_list _ _ c.map.result _ (YieldsList-from_map _ (λ b. length (sent b)) (YieldsList-from_slice p cc) c.map.ensures.closure (λ x r q k. search (rules, tests))) small }

pub overflow_add-result : goal.overflow_add-result
overflow_add-result c =
    let p = c.args.payload.now in
    let sum : c.sum.result ≡ sum_by (λ b. length (sent b)) p = search rules in
    omega (arith, sum, stuff_sum p, stuff_two p, c.requires)

pub returns : goal.returns
returns c =
    let p = c.args.payload.now in
    let sum : c.sum.result ≡ sum_by (λ b. length (sent b)) p = search rules in
    omega (arith, sum, stuff_sum p, packet_long p)
