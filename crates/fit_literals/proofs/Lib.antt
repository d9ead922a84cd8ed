pub mod Ranging
pub mod Shapes
pub mod Clauses
