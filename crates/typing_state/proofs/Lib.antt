pub mod Words
pub mod Stacks
