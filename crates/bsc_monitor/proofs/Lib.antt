pub mod Absent
pub mod Followed
