-- How far a call can go, and that its result is one.
pub mod Bounds
pub mod Promises
