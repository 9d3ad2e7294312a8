-- In the order of reading. `Reading` is the reading state by state, to which what is found by eye is proved equal.
pub mod Text
pub mod Ran
pub mod Loads
pub mod Tables
pub mod Replies
pub mod Calls
pub mod Reading
pub mod Claims
pub mod Samples
pub mod WorkedLoads
