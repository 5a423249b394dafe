pub mod EvenRuns
pub mod Finished
pub mod FramesShown
pub mod ItemsSay
pub mod Runs
pub mod Sheets
pub mod Takings
