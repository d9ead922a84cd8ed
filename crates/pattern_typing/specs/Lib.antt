pub mod Crossing
pub mod Contexts
pub mod Making
pub mod Resolving
pub mod Failing
pub mod Closed
pub mod Downward
