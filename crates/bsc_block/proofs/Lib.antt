pub mod Fronts
pub mod Taking
pub mod Cutting
pub mod HeldRecords
pub mod Pieces
pub mod Waiting
pub mod Removing
pub mod Forgotten
