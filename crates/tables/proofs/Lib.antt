-- `Loads`, `NewSets`, `Networks` and `Promises` say what holds of loads, versions and the calls, `Samples` small cases; the others serve the
-- proofs.
pub mod Moves
pub mod Staying
pub mod Stocking
pub mod Closings
pub mod Versions
pub mod Loads
pub mod NewSets
pub mod Networks
pub mod Promises
pub mod Samples
