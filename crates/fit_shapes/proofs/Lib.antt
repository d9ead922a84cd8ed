mod Defaults
pub mod Shaped
pub mod Numbering
pub mod Fielding
pub mod Nodes
pub mod Resting
