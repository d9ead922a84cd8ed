pub mod Stepping
pub mod Paths
pub mod States
pub mod Moving
