pub mod BandFacts
pub mod BlockFacts
pub mod LimitFacts
pub mod Names
pub mod WorthFacts
