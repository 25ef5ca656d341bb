pub mod LineParts
pub mod Splitting
pub mod Digits
pub mod Escapes
pub mod Lists
pub mod Fronts
pub mod Plain
pub mod Appending
