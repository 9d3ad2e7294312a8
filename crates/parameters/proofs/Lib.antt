-- `Promises` say what holds of the calls, `Samples` the paper's examples; the others serve the proofs of these calls and of messages.
pub mod Parameters
pub mod Finding
pub mod Promises
pub mod Samples
