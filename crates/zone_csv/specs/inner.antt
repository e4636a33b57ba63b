pub mod RowAnswers
pub mod ReaderStages
