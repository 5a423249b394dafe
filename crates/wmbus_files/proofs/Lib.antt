mod Counts
mod Plans
