pub mod CountedItems
pub mod LinesTaken
pub mod Marks
pub mod ModelFields
pub mod ModelParts
