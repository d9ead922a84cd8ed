pub mod Stored
pub mod Known
pub mod Passing
pub mod Typings
