pub mod Appending
pub mod Items
pub mod Speaking
pub mod Causes
pub mod Acting
pub mod Standings
pub mod LineRuns
pub mod Playing
