mod Defaults
pub mod Stepping
pub mod Rowing
pub mod Holding
pub mod Asking
pub mod Answering
