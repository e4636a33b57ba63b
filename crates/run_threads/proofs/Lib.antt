pub mod Joined
pub mod Sending
