pub mod Numbered
pub mod Flags
