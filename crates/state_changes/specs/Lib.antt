pub mod Merging
pub mod Raising
pub mod Laws
pub mod Statuses
pub mod Loading
pub mod CommandWords
pub mod Printing
