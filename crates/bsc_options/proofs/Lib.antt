pub mod EachText
pub mod Numerals
pub mod Uses
