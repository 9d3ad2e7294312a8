-- `Calling`: a call of the machine is gathering, and then at most one answered byte. `Replies`: an answered byte, on the state. `Leaving`: what a call
-- leaves of the state. `Knowing`: what a call that is not refused knows. `Giving`: what the public calls give. `Short`: no reply is longer than 43 bytes. `Back`: state and machine, both ways. `Sending` and `Running` serve the
-- functions.
pub mod Sending
pub mod Running
pub mod Calling
pub mod Replies
pub mod Leaving
pub mod Knowing
pub mod Giving
pub mod Back
pub mod Short
pub mod Promises
