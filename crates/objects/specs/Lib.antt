-- In the order of reading. `Within` is proved: a piece of a list stands within it.
pub mod Tag
pub mod LengthForm
pub mod Object
pub mod Claims
pub mod Within
