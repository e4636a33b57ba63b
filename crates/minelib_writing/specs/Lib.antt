pub mod TextLaws
pub mod Texts
pub mod TextsKept
pub mod Written
pub mod inner
