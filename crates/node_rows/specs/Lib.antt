pub mod Nodes
pub mod Makings
