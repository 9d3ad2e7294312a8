-- In the order of reading. `Steps` serves the private functions alone: no promise cites it.
pub mod Loading
pub mod Closing
pub mod Claims
pub mod Steps
