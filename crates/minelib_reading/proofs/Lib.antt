pub mod counts
pub mod encoded
pub mod keys
pub mod lines
pub mod models
