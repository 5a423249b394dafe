pub mod Puts
pub mod Filing
pub mod InMemory
pub mod Pieces
