-- `Theorems` say what holds of messages and of the calls, `Samples` the paper's examples; the others serve the proofs.
pub mod Putting
pub mod Blocks
pub mod Filling
pub mod Heads
pub mod Judging
pub mod Theorems
pub mod Samples
