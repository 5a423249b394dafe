pub mod Grammar
pub mod Keeps
pub mod Lines
pub mod Newlines
pub mod Reader
pub mod Reading
pub mod Search
