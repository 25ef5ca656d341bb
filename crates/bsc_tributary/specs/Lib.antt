pub mod Called
pub mod Tributary
pub mod Kept
pub mod Stored
