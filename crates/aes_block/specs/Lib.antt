pub mod Field
pub mod Block
pub mod Words
pub mod Laws
