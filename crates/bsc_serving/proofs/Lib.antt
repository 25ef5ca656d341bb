pub mod Kept
pub mod Steps
pub mod Asked
pub mod Changes
pub mod SameFed
pub mod Turns
