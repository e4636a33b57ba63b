pub mod Bits
pub mod Looking
pub mod Strips
pub mod Windows
