-- `Texts` and `Layouts` serve the proofs, `Promises` say what the call is held to and give small cases.
pub mod Texts
pub mod Layouts
pub mod Promises
