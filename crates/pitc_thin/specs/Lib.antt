pub mod Thinning
