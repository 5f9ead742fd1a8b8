pub mod Constants
pub mod Getters
pub mod Signs
pub mod Columns
pub mod Sound
