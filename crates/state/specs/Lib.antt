-- In the order of reading.
pub mod State
pub mod Sound
pub mod Claims
