pub mod NextBlock
pub mod Offers
pub mod BlockCount
