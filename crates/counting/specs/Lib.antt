pub mod Reaching
pub mod Counting
pub mod Demand3
