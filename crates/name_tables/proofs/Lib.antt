pub mod Ruled
pub mod Found
