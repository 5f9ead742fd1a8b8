pub mod Replaced
pub mod Levels
pub mod Places
pub mod Lanes
pub mod Walks
