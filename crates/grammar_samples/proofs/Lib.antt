pub mod Outlines
pub mod Words
pub mod Ranges
pub mod Lists
pub mod Random
