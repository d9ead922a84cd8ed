pub mod Stacks
pub mod Fitting
pub mod Upward
pub mod Growing
