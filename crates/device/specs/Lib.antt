-- In the order of reading. `Steps` serves the private functions alone: no promise cites it.
pub mod Events
pub mod Machine
pub mod Between
pub mod Promise
pub mod Claims
pub mod Steps
