mod AtBase
mod Borrowed
mod Compiles
mod Models
mod SameRuns
pub mod Slots
