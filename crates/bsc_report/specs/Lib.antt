pub mod Arrivals
pub mod Following
pub mod Holding
pub mod Printed
pub mod Terminals
pub mod Traces
pub mod TrustReport
