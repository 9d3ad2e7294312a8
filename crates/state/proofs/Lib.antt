-- `Accepting`: what is known of a state where a call is not refused. `Promises`: each call has one result.
pub mod Accepting
pub mod Promises
