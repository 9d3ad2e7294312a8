-- What a call that is not refused knows of its tables and its held response.
use mathlib.Core.Path.{◌≡◌}
use mathlib.Core.Bool.{true}
use Rattle.execution.proofs.Between.{stored_back}
use Rattle.execution.proofs.Executing.{executed_is, responded_is, dropped_is}
use Rattle.state.specs.State.{State, stored_in}
use Rattle.state.specs.Sound.{is_sized, sound}
use Rattle.state.specs.Claims.{Arrays}
use Rattle.state.proofs.Accepting.{sized_both, tables_good}
use Rattle.device.proofs.Replies.{Known}
use Rattle.execution.specs.Claims.{Sized}

-- what is known where a call is not refused
pub known : (x : State) → Arrays x.device → is_sized x ≡ true → sound x ≡ true → Known x
known x a s e =
    let (l, m) = sized_both x s in
    let z : Sized (stored_in x) = record { versions_long = a.versions_long; version_long = a.version_long; live_long = l; loading_long = m } in
    let t = tables_good x e in
    record {
      back = stored_back (stored_in x) z t;
      runs_is = λ p. executed_is p (stored_in x) z t;
      responds_is = λ p. responded_is p (stored_in x) z t;
      drops_is = dropped_is (stored_in x) z t;
      payload_long = a.payload_long;
    }
