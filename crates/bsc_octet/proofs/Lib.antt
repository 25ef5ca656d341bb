pub mod OddOctets
pub mod Sums
pub mod Elements
pub mod LaneParity
pub mod Checks
