-- `RoundTrip` and `Promises` say what holds of objects and of the calls, `Samples` the paper's examples; the others serve the proofs.
pub mod TagSizes
pub mod LengthForms
pub mod Objects
pub mod Reading
pub mod Writing
pub mod OnlyForm
pub mod RoundTrip
pub mod Promises
pub mod Samples
