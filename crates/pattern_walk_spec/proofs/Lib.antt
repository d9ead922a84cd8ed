pub mod Following
pub mod Sequences
