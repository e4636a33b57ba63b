pub mod Best
pub mod Members
pub mod Needed
pub mod One
pub mod ReducedLists
pub mod Same
pub mod SameOptima
pub mod Sums
