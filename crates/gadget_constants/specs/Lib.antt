pub mod Prepared
pub mod Word
