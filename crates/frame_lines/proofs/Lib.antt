pub mod Frames
pub mod ReadBack
