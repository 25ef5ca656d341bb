pub mod Peer
pub mod Control
pub mod CallOrder
pub mod Table
pub mod Kept
pub mod Stored
