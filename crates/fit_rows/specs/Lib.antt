pub mod Nodes
pub mod Bound
