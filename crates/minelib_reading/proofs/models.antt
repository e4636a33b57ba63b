pub mod LineCases
pub mod ModelFacts
pub mod ModelSteps
pub mod Places
pub mod ValidModel
pub mod ValidRead
pub mod WellFormedRead
