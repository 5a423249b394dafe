pub mod Crc
pub mod Frames
pub mod Decoding
pub mod Faults
pub mod Decodes
pub mod Laws
