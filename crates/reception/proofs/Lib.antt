-- `Promises` say what the calls are held to and what every byte keeps.
pub mod Promises
