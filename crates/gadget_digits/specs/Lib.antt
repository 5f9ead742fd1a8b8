pub mod Walk
pub mod Step
pub mod Column
