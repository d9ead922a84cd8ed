pub mod Little
pub mod Listed
mod Defaults
