pub mod Roster
pub mod Columns
pub mod Text
pub mod Writing
pub mod Enrolled
