pub mod Putting
pub mod Downward
