mod Defaults
pub mod Apart
