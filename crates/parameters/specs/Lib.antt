-- In the order of reading.
pub mod Parameters
pub mod Finding
pub mod Claims
pub mod Within
