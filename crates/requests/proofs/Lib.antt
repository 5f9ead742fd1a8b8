pub mod Retired
pub mod Widened
pub mod Signed
pub mod Counted
