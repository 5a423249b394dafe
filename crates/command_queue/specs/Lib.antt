pub mod Pending
pub mod Orders
pub mod Moves
