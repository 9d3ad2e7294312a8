-- In the order of reading. `Steps` and `Within` serve the private functions alone: no promise cites them.
pub mod Blocks
pub mod Message
pub mod Claims
pub mod Steps
pub mod Within
