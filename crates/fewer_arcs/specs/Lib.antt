pub mod Implied
pub mod Mined
pub mod Optima
pub mod Reduced
pub mod ReducedList
