pub mod Chains
mod ManyReceivers
pub mod OneReceiver
pub mod Orders
pub mod Runs
pub mod MadeSessions
pub mod MacRuns
