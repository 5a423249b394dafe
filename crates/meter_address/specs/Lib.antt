pub mod Address
pub mod Letters
pub mod Commission
pub use Rattle.hex.specs.Hex
