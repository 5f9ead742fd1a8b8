-- What the theorems about calls say, in the scheme's letters.
pub mod Phases
pub mod Switched
pub mod Choices
pub mod Rebuilt
pub mod Formed
