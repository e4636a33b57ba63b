pub mod FileSinkView
pub mod MemSinkView
pub mod SectionSinkView
pub mod SinkState
pub mod SinkSteps
pub mod WriteSinkView
pub mod Writes
