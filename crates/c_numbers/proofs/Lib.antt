pub mod Service
pub mod Allocated
