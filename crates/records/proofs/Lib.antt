pub mod CellFacts
pub mod ReadAgain
pub mod RecordSteps
