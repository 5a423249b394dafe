pub mod Faults
pub mod Bytes
pub mod InMemory
pub mod Shown
pub mod Standard
