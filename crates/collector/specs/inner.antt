pub mod ItemsByFile
pub mod Places
pub mod WithAt
