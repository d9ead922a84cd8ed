mod Halves
mod Constants
mod Defaults
pub mod Operands
pub mod Answers
