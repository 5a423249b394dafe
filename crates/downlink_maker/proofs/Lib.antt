mod Rows
pub mod Bytes
pub mod Parts
pub mod ReadBack
