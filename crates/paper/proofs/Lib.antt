pub mod Calls
pub mod Filings
pub mod Hex
pub mod Items
pub mod Keeping
