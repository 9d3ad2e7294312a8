-- `Theorems` say what holds of packets and of the calls, `Samples` the paper's examples; the others serve the proofs.
pub mod Stuffing
pub mod Reading
pub mod Closing
pub mod Judging
pub mod Theorems
pub mod Samples
