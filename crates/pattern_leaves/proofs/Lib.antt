mod Defaults
mod Checking
pub mod Leafing
mod Ending
mod Sequencing
