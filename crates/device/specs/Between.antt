-- Both ways between the state as the code holds it and the machine.
use Rattle.std.specs.Prelude.{ℕ, zero, suc, List, [], take}
use Rattle.execution.specs.Stored.{core_of, stored_of}
use Rattle.state.specs.declared.Held.{Held}
use Rattle.state.specs.State.{State, state_as, device_as, line_in, stored_in, held_as}
use Rattle.device.specs.Machine.{Holding, Machine}
use Rattle.device.specs.Machine.Holding.{nothing, holding}

-- ---- from the state

-- length 0 stands for nothing held
abbrev pub holding_in : ℕ → List ℕ → ℕ → Holding
holding_in zero payload times = nothing
holding_in (suc n) payload times = holding (take (suc n) payload) times

unfoldable pub machine_of : State → Machine
machine_of x =
    let h = x.device.held in
    record {
      line = line_in x.device;
      store = x.device.store;
      response = holding_in h.response.length h.response.payload h.times;
      core = core_of (stored_in x);
    }

-- ---- to every byte

abbrev pub held_of : Holding → Held
held_of nothing = held_as [] 0
held_of (holding p n) = held_as p n

unfoldable pub state_of : Machine → State
state_of m =
    let s = stored_of m.core in
    state_as (device_as m.line m.store (held_of m.response) s.tables) s.live s.loading
