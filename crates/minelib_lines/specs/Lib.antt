pub mod HeaderKeys
pub mod HeaderTable
pub mod KeyParts
pub mod Lines
pub mod TextNames
pub mod StatedHeader
