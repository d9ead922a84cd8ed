pub mod Defaults
pub mod Projecting
pub mod Fields
pub mod Ranges
pub mod Named
pub mod Far
