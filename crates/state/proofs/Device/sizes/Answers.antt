-- `state::Device::sizes` meets its contract: by the type of each array.
use Rattle.std.proofs.Common.{rules, ◌≡◌, length}
use Rattle.state.proofs.Device.sizes.Goals as goal

pub returns : goal.returns
returns c =
    let d = c.args.self in
    let s : length d.store ≡ 2048 = search rules in
    let p : length d.held.response.payload ≡ 19 = search rules in
    let v : length d.tables.versions ≡ 1000 = search rules in
    let o : length d.tables.load.version ≡ 10 = search rules in
    record { store_long = s; payload_long = p; versions_long = v; version_long = o }
