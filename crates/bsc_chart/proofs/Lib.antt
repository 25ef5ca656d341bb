pub mod Plain
pub mod RowTexts
pub mod Sums
pub mod Drawn
pub mod Kept
pub mod Ends
pub mod Ladders
pub mod TraceErrors
