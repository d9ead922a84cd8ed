pub mod Names
pub mod Ways
