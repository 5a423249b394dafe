pub mod HeaderOrder
pub mod Texts
pub mod Keys
