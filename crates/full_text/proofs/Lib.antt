pub mod ZerosPut
pub mod Exact
pub mod LastFirst
pub mod Sizes
pub mod QualifiersPut
