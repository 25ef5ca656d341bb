pub mod Options
pub mod CommandLine
