pub mod Label
pub mod DeviceTypes
pub mod Reading
pub mod Texts
