pub mod Words
pub mod Decimals
pub mod DecimalLaw
pub mod Reals
pub mod Values
pub mod Said
