pub mod Acts
pub mod Passes
pub mod Turns
