pub mod Starting
pub mod Stepping
pub mod Opening
pub mod Matching
