pub mod Giving
pub mod Prefixes
pub mod ReadGiven
pub mod WriteFacts
