pub mod Fragment
pub mod Held
pub mod Laws
pub mod Places
pub mod Short
