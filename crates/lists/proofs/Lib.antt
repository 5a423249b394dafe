pub mod Choices
pub mod Members
pub mod Places
pub mod Puts
pub mod StepLaws
