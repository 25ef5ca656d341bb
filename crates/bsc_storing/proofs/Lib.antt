pub mod Doubts
pub mod OfferedLines
