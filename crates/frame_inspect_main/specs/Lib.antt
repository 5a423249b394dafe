pub mod Items
pub mod Layered
pub mod Laws
pub mod Looks
pub mod Run
pub mod Runs
pub mod Statuses
pub mod Words
