mod Defaults
mod Typing
pub mod Needed
mod Filling
mod Resting
