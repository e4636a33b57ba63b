pub mod Cells
pub mod Entries
pub mod Found
pub mod Own
