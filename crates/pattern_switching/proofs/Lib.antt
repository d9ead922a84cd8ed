pub mod Branching
mod Comparing
mod Forking
pub mod Cutting
