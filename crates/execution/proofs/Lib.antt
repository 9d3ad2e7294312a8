-- `Asked` says what the payload of a command holds, `Between` goes both ways between bytes and core, `Executing` says that the promises are what the
-- commands do, `Keeping` that they leave a core that can be (`Sets` serves it), `Promises` that each call has one result. `Laying` (texts and
-- versions laid in zeros) and `Choosing` (what a test picks) serve the functions.
pub mod Asked
pub mod Between
pub mod Executing
pub mod Sets
pub mod Keeping
pub mod Laying
pub mod Choosing
pub mod Promises
pub mod Same
