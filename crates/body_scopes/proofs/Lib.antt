pub mod Emptying
pub mod Opening
pub mod Closing
