pub mod Unopened
pub mod Watched
