pub mod Storing
pub mod Joining
