pub mod AnsweredAgain
pub mod CentroidFacts
pub mod ColumnFacts
pub mod HeaderFacts
pub mod RefusedRowFacts
pub mod Refuses
pub mod RowFacts
pub mod ZoneFacts
