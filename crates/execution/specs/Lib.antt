-- In the order of reading. `Steps` serves the private functions alone: no promise cites it.
pub mod CommandTable
pub mod Core
pub mod Execute
pub mod Responses
pub mod Stored
pub mod Promise
pub mod Claims
pub mod Steps
