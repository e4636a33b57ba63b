pub mod Equality
pub mod InRangeOnce
pub mod Past
pub mod PlanFields
