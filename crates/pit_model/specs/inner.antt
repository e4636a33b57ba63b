pub mod DraftFields
