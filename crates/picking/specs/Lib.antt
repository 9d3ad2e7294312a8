-- In the order of reading.
pub mod Lists
pub mod Pick
pub mod Claims
