pub mod ItemRefView
pub mod ItemsView
pub mod Packed
pub mod Valued
pub mod inner
