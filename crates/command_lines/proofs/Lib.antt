pub mod Accepted
pub mod Commands
pub mod FoundJob
pub mod FoundRun
pub mod Numbers
