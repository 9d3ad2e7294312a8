-- `Sums`, `Division`, `Register` and `Steps` have the laws of the definitions, `Bits` those of a number's bits, `Promises` what the public call
-- is held to, and `Vectors` worked examples.
pub mod Sums
pub mod Division
pub mod Register
pub mod Bits
pub mod Steps
pub mod Promises
pub mod Vectors
