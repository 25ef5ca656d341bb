pub mod Hearings
pub mod Naming
pub mod Counts
