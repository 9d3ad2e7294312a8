-- What the types of a device's arrays give: a term of the theorems on states.
use Rattle.std.specs.Prelude.{◌≡◌, length}
use Rattle.state.specs.declared.Device.{Device}

-- the sizes of a device's arrays, which their types give
pub record Arrays (d : Device) : Type 0 where
  pub store_long : length d.store ≡ 2048
  pub payload_long : length d.held.response.payload ≡ 19
  pub versions_long : length d.tables.versions ≡ 1000
  pub version_long : length d.tables.load.version ≡ 10
