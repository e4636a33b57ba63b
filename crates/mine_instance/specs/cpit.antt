pub mod Cpit
pub mod CpitInvariant
pub mod CpitOrder
pub mod OfCpit
