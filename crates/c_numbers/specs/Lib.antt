pub mod Lengths
pub mod Numbers
pub mod Service
