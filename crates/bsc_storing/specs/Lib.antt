pub mod Errors
pub mod Releases
pub mod Names
pub mod Lines
pub mod Works
pub mod Endings
