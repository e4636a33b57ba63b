pub mod CoefParts
pub mod IdTextFields
pub mod KeptParts
pub mod Parts
pub mod Spaced
