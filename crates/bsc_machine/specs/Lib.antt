pub mod Connections
pub mod Feeding
pub mod Limits
pub mod Showing
