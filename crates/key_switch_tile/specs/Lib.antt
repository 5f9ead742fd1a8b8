pub mod Rows
pub mod Tile
pub mod Switched
