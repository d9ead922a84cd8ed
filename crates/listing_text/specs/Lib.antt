pub mod Words
pub mod Numbers
pub mod Listing
pub mod Writing
