pub mod Asked
pub mod CommandLine
pub mod ThinLine
pub mod inner
