pub mod RowNumbers
pub mod Checks
