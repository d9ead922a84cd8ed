pub mod Words
pub mod RowLengths
pub mod Answering
pub mod Stepping
pub mod Calls
