pub mod HeaderFacts
pub mod HeaderLines
pub mod KeyLines
pub mod KeyNumbers
pub mod Keyless
