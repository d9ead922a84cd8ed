pub mod RowsDone
pub mod DataBytes
pub mod Limits
