pub mod Short
pub mod WideLvars
pub mod UnitPlaces
pub mod Agreeing
pub mod Plain
pub mod Places
pub mod PlainPowers
