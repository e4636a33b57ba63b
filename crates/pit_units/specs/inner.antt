pub mod DecFields
pub mod PrefixParts
