pub mod Named
pub mod Marked
