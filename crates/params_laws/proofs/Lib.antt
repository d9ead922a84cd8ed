pub mod Typing
pub mod Lowering
pub mod Sequence
pub mod Stepping
pub mod Calling
