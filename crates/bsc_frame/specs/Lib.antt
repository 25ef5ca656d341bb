-- The code set, for the layers above.
pub use Rattle.bsc_octet.specs.Octet
pub mod Addresses
pub mod Texts
pub mod TextBuffers
pub mod Units
pub mod Replies
pub mod Message
pub mod MessageBuffers
pub mod Wire
pub mod Spells
pub mod Reading
pub mod Short
pub mod Same
pub mod TextEquality
pub mod TurnedBits
