pub use Rattle.lists.specs.Steps
pub mod Layers
pub mod Target
pub mod Keys
pub mod Opening
pub mod Refusals
pub mod Opened
