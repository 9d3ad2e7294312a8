-- `ByEye`: what is found by eye is what is read state by state (`Heard`, `Places`, `Stretch` and `Bodies` lead there). `Performing`: a machine's run is the commands
-- of what is seen. `TablesHold` and `RepliesHold`: tables, versions and replies are what the history gives. `LegalRuns`: a machine that can be stays so. `Cutting` and
-- `Handed`: calls in any cut come to the run. `Covered`: every history can be handed over. `OnlyTle`: nothing but a TLE changes what is live. `Theorems` and
-- `Demands`: demand 3. `Samples`: the marked samples. `WorkedLoads`: a load that ends and one that is torn, byte by byte.
pub mod Heard
pub mod Places
pub mod Stretch
pub mod Bodies
pub mod ByEye
pub mod Performing
pub mod TablesHold
pub mod RepliesHold
pub mod LegalRuns
pub mod Cutting
pub mod Handed
pub mod Covered
pub mod Theorems
pub mod OnlyTle
pub mod Demands
pub mod Samples
pub mod WorkedLoads
