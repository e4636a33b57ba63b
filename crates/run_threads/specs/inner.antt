pub mod Promises
pub mod Ready
pub mod Sending
pub mod Started
