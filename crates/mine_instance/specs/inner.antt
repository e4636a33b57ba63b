pub mod LazyCoefFields
pub mod LazyValueFields
