pub mod Format
pub mod Records
pub mod Pieces
pub mod Blocks
