pub mod Cells
pub mod RecordCells
pub mod RecordReader
pub mod Records
pub mod inner
