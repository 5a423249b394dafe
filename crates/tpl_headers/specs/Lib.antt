pub mod Configuration
pub mod Header
pub use Rattle.meter_address.specs.Address
