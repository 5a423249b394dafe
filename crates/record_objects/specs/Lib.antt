pub mod Trees
pub mod Records
pub mod ReadBack
pub mod Words
