pub mod Defaults
pub mod Bools
pub mod Trees
pub mod Known
