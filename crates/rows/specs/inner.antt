pub mod Entries
pub mod EntryFields
pub mod EntryView
pub mod ItemRefFields
pub mod Own
pub mod WorthsFields
