pub mod FaultText
pub mod Fed
pub mod FieldValues
pub mod Reading
pub mod StatedFields
pub mod TextLines
pub mod TextParts
pub mod inner
