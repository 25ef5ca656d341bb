pub mod Record
pub mod Front
pub mod Faults
pub mod TwoBuffers
pub mod Assembler
pub mod KnownOctets
pub mod Stream
pub mod Cable
