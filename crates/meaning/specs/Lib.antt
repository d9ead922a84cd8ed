pub mod Values
pub mod Running
pub mod Executing
pub mod Matching
pub mod Binding
pub mod Typing
pub mod Fit
