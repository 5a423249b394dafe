pub mod Onward
pub mod Bounds
pub mod Summing
