pub mod Faults
pub mod Channels
pub mod Checks
pub mod Tables
pub mod Reading
pub mod Making
