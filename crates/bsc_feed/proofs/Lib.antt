pub mod Kept
pub mod Dividing
pub mod Quiet
pub mod Steps
pub mod Obeying
pub mod Telling
