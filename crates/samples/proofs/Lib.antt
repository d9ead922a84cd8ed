pub mod Samples
pub mod Corners
pub mod Places
