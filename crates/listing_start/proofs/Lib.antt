pub mod Limits
pub mod Leading
pub mod Numbers
