-- In the order of reading. `Steps` serves the private functions alone: no promise cites it.
pub mod Substitution
pub mod Packet
pub mod Claims
pub mod Steps
