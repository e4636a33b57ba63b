pub mod CoveredPairs
pub mod Groups
