-- `ListRoundTrip`, `Withheld` and `Promises` say what holds of lists and of the picker; the others serve the proofs.
pub mod Same
pub mod Lists
pub mod ListRoundTrip
pub mod Withheld
pub mod Promises
pub mod Walking
