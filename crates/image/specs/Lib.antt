-- In the order of reading.
pub mod Image
pub mod ImagePromise
pub mod ImageCalls
pub mod Claims
