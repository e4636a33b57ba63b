pub mod Checked
pub mod Counts
pub mod WrittenTexts
pub mod inner
