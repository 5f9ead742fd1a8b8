pub mod Adjusted
pub mod Walk
pub mod Steps
pub mod Columns
