pub mod Rows
pub mod Turning
