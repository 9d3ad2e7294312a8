-- In the order of reading. `Within` is a law with its proof; `Steps` serves the private functions alone: no promise cites it.
pub mod Record
pub mod Store
pub mod Claims
pub mod Within
pub mod Steps
