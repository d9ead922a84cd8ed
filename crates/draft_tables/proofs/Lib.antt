pub mod Regions
pub mod Parts
pub mod Reading
pub mod Counted
pub mod Chaining
