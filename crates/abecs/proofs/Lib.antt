-- `Whole` has what a version of another size changes. `Promises`: one result of each call with numbers, flags or an image. `Codecs`: what is written and
-- read again by the codec calls.
pub mod Whole
pub mod Promises
pub mod Codecs
