pub mod Embedding
pub mod Words
