pub mod Firsts
pub mod Offered
pub mod Forgotten
mod OtherChannels
mod Refused
