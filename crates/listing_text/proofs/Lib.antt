mod Samples
pub mod Pieces
pub mod Loops
mod Digits
