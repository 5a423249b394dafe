pub mod Merges
pub mod Raises
pub mod States
pub mod CommandWords
