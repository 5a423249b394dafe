pub use Rattle.dif_vif.specs.Spans
pub mod Long
pub mod Walk
pub mod Listing
