pub use Rattle.full_spans.specs.Long
pub mod Kinds
pub mod Profiles
pub mod SentValues
pub mod Values
pub mod Sums
