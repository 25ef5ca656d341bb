pub mod Steps
pub mod Owners
pub mod Owning
pub mod Counting
pub mod Trusting
pub mod Barring
