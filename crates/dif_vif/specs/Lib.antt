pub mod Numbers
pub mod Spelling
pub mod Spans
pub mod Reading
pub mod Views
pub mod Stops
pub mod Listing
