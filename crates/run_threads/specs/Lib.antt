pub mod Full
pub mod HandingOver
pub mod MostBytes
pub mod Reading
pub mod Refusing
pub mod Starts
pub mod inner
