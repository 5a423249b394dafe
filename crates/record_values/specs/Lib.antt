pub use Rattle.dif_vif.specs.Numbers
pub use Rattle.dif_vif.specs.Spans
pub mod Units
pub mod Values
