pub mod Orders
pub mod OrdersLaw
pub mod Outcomes
pub mod Report
pub mod Readings
pub mod ReadingsLaw
