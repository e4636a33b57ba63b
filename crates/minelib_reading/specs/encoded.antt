pub mod EncodedAdditions
pub mod EncodedItems
pub mod EncodedKeys
pub mod EncodedLines
pub mod EncodedModel
pub mod EncodedTexts
pub mod LineKinds
