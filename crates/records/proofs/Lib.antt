-- `Stores` and `Promises` say what holds of stores and of the calls, `Samples` small cases; the others serve the proofs.
pub mod Records
pub mod Checks
pub mod Stores
pub mod Promises
pub mod Samples
