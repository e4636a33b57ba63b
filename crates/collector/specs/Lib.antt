pub mod Complete
pub mod Fault
pub mod Found
pub mod CollectorView
pub mod Lists
pub mod inner
