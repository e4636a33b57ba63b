pub mod CheckSteps
pub mod CountSteps
