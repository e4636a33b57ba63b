pub mod AfterStart
pub mod ModelRows
pub mod ReadAnswers
pub mod Repeats
pub mod SinkWriting
pub mod ValuedRows
