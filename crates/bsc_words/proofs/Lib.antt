pub mod Simple
mod Shaped
