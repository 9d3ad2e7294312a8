-- The state as the code holds it: a struct and the bytes of two lent stores.
use Rattle.std.specs.Prelude.{ℕ, Bool, true, false, ◌&&◌, List, leb, ltb}
use Rattle.reception.specs.declared.Reception.{Reception}
use Rattle.reception.specs.declared.Reception.TheVariants.{Idle, InData, After13h, FirstCheck, SecondCheck}
use Rattle.reception.specs.declared.Line.{Line}
use Rattle.reception.specs.Reception.{line_of}
use Rattle.execution.specs.declared.Tables.{Tables}
use Rattle.execution.specs.Stored.{Stored, stored_as}
use Rattle.execution.specs.Promise.{response_with}
use Rattle.state.specs.declared.Held.{Held}
use Rattle.state.specs.declared.Device.{Device}

-- the device, and the bytes of the live and the loading store
pub record State : Type 0 where
  pub device : Device
  pub live : List ℕ
  pub loading : List ℕ

abbrev pub state_as : Device → List ℕ → List ℕ → State
state_as device live loading = record { device = device; live = live; loading = loading }

-- a device by its parts
abbrev pub device_as : Line → List ℕ → Held → Tables → Device
device_as line store held tables =
    record { reception = line.state; spoiled = line.spoiled; count = line.count; store = store; held = held; tables = tables }

abbrev pub line_in : Device → Line
line_in d = line_of d.reception d.spoiled d.count

abbrev pub stored_in : State → Stored
stored_in x = stored_as x.device.tables x.live x.loading

-- the device with another line and reception store
abbrev pub with_line : Device → Line → List ℕ → Device
with_line d line store = device_as line store d.held d.tables

-- and with another held response
abbrev pub with_held : Device → Held → Device
with_held d h = device_as (line_in d) d.store h d.tables

-- ---- the line

-- it is between packets
abbrev pub is_idle : Reception → Bool
is_idle Idle = true
is_idle InData = false
is_idle After13h = false
is_idle FirstCheck = false
is_idle (SecondCheck a) = false

-- ---- the held response

-- by its payload, and how often its packet was sent again
abbrev pub held_as : List ℕ → ℕ → Held
held_as p n = record { response = response_with p; times = n }

-- there is one, and it was sent again fewer than 3 times
abbrev pub can_resend : Held → Bool
can_resend h = leb 1 h.response.length && ltb h.times 3
