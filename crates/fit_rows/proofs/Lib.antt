mod Defaults
pub mod Lists
pub mod Rows
pub mod Known
pub mod Bindings
pub mod Fitting
pub mod Ways
pub mod Walks
pub mod Loops
pub mod Joining
