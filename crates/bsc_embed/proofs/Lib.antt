pub mod AddressLists
pub mod TerminalLists
pub mod Refused
pub mod Cutting
pub mod PartValues
pub mod PointerValues
mod Units
mod Addresses
mod Texts
mod KeptContents
mod HeardKinds
pub mod Makings
