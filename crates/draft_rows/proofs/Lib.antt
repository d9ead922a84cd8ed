pub mod Putting
pub mod Lowering
