pub mod Passing
pub mod Fitting
