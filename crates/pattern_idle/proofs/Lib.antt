mod Defaults
pub mod Idling
