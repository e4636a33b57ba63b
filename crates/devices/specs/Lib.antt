pub mod Count
pub mod Device
pub mod ShownBytes
pub mod feeds
pub mod files
pub mod inner
pub mod sinks
