pub mod ByRole
pub mod Naming
mod Defaults
