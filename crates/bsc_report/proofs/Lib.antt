pub mod Counts
mod Lines
