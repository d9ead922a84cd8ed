pub mod Regions
pub mod Building
