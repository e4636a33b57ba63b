pub mod Even
pub mod Outside
pub mod RangeLists
pub mod RangesOfRows
pub mod RowOfCode
pub mod SameCone
pub mod Starts
