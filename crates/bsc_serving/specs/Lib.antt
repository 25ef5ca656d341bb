pub mod Streams
pub mod Feds
pub mod Sessions
pub mod Serves
pub mod Places
pub mod Stations
