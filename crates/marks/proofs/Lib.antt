pub mod Takes
pub mod Shapes
