-- In the order of reading.
pub mod Crc
pub mod Register
pub mod Claims
