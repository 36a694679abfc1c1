pub mod Parts
pub mod Joining
pub mod Pieces
