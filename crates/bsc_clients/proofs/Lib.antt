mod Errors
mod Sent
mod Told
mod Unfinished
