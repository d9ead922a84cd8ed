pub mod Recording
mod Rows
pub mod Keeping
mod Testing
mod Walks
pub mod Lowered
pub mod Leaving
pub mod Taken
pub mod Tested
