pub mod Head
pub mod Kind
