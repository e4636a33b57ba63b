pub mod Checks
pub mod CountedAll
pub mod WrittenCounts
