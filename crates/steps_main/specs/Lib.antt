pub mod Statuses
pub mod Steps
pub mod Run
pub mod Beginning
pub mod Telling
pub mod Ending
pub mod Laws
pub mod Told
