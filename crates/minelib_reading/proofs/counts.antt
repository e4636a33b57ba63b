pub mod CountedFacts
pub mod FedAnswers
pub mod LaterLines
pub mod MarkFacts
