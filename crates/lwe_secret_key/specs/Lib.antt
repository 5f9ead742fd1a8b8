pub mod Key
pub mod Runs
