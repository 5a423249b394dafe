pub mod Access
pub mod Extension
