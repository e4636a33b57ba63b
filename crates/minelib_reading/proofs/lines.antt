pub mod FaultFacts
pub mod FormFacts
pub mod ItemLines
pub mod LineFacts
pub mod PrecTests
