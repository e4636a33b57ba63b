pub mod CountsText
pub mod Thin
pub mod inner
