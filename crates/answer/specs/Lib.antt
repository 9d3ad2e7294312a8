-- In the order of reading. `Laid` serves functions behind the public ones: no promise of a codec call cites it.
pub mod Refusals
pub mod Answers
pub mod Pieces
pub mod Digits
pub mod Laid
pub mod Claims
