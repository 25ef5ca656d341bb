pub mod Answers
pub mod Commands
pub mod Errors
pub mod Feeding
pub mod Calls
pub mod Listening
