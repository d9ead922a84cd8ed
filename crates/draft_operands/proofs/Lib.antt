pub mod Halving
pub mod Operands
pub mod Adding
