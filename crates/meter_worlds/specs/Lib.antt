pub mod Order
pub mod PassingWorld
