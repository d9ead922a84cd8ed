pub mod Leaves
pub mod Modes
pub mod Arguments
pub mod Nodes
