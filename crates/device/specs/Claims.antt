-- The machines that can be, and what a refused call leaves: the terms of the theorems on the device.
use Rattle.std.specs.Prelude.{◌≡◌, Bool, true, false, List, ℕ, ◌≤◌, length}
use Rattle.reception.specs.declared.Reception.{Reception}
use Rattle.reception.specs.declared.Reception.TheVariants.{Idle, InData, After13h, FirstCheck, SecondCheck}
use Rattle.execution.specs.Responses.{is_response}
use Rattle.execution.specs.Claims.{LegalCore}
use Rattle.state.specs.State.{State}
use Rattle.device.specs.Machine.{Holding, Machine}
use Rattle.device.specs.Machine.Holding.{nothing, holding}
use Rattle.device.specs.Promise.{Received}

-- between packets nothing is spoiled and no payload byte is placed; in a packet at most 2,048 are placed
abbrev pub LegalLine : Reception → Bool → ℕ → Type 0
LegalLine Idle spoiled count = (spoiled ≡ false) × (count ≡ 0)
LegalLine InData spoiled count = count ≤ 2048
LegalLine After13h spoiled count = count ≤ 2048
LegalLine FirstCheck spoiled count = count ≤ 2048
LegalLine (SecondCheck a) spoiled count = count ≤ 2048

-- a held response is one that the command table or ERR010 gives, sent again at most 3 times
abbrev pub LegalHolding : Holding → Type 0
LegalHolding nothing = Unit {0}
LegalHolding (holding p n) = (is_response p ≡ true) × (n ≤ 3)

-- A LEGAL MACHINE
pub record Legal (m : Machine) : Type 0 where
  pub line_legal : LegalLine m.line.state m.line.spoiled m.line.count
  pub store_long : length m.store ≡ 2048
  pub response_legal : LegalHolding m.response
  pub core_legal : LegalCore m.core

-- it takes nothing, writes nothing, and the device and every byte of the three buffers are as they were
pub record Unchanged (x : State) (out : List ℕ) (r : Received) (out' live' loading' : List ℕ) : Type 0 where
  pub device_stays : r.device ≡ x.device
  pub none_taken : r.taken ≡ 0
  pub none_written : r.written ≡ 0
  pub out_stays : out' ≡ out
  pub live_stays : live' ≡ x.live
  pub loading_stays : loading' ≡ x.loading
