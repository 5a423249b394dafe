pub mod Escaped
pub mod Parts
pub mod ShownLines
pub mod Ticks
pub mod Words
