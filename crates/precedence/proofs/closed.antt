pub mod OneCone
pub mod Slopes
