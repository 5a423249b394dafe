pub mod Agreeing
pub mod Words
