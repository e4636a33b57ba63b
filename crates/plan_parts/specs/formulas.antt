pub mod Bands
pub mod BandsInvariant
pub mod Formula
pub mod FormulaCopy
pub mod Worth
pub mod WorthRange
