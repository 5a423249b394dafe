pub mod Downlink
pub mod Parts
pub mod Sent
pub mod Laws
