pub mod Zeros
pub mod Loops
pub mod Tables
