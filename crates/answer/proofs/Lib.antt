-- `Parts`, `DigitLaws`, `Laws`, `Laid` and `Pieces` serve the proofs of calls that answer so, `Promises` say what the promise fixes.
pub mod Parts
pub mod DigitLaws
pub mod Laws
pub mod Laid
pub mod Pieces
pub mod Found
pub mod Promises
