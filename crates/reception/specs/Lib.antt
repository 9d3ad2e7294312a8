-- In the order of reading.
pub mod Cases
pub mod Reception
