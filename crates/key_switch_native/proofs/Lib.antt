pub mod Rows
pub mod Wrapping
