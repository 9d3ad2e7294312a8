-- `Kept` serves the proofs, here and of what gathers; `Promises` says what the promise fixes.
pub mod Kept
pub mod Promises
