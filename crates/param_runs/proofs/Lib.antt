mod Shutting
mod Owning
pub mod Words
mod Plain
mod Declaring
mod Stepping
pub mod Receivers
pub mod OpenBlocks
mod Tallying
mod Typing
pub mod Counts
pub mod Corners
mod Walks
mod Fitting
mod Holding
pub mod Through
pub mod Runs
pub mod Scoping
