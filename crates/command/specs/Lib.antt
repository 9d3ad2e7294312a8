-- In the order of reading. `Steps` serves the private functions alone: no promise cites it.
pub mod Texts
pub mod Command
pub mod Claims
pub mod Steps
