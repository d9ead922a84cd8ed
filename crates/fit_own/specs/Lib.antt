pub mod Failing
pub mod Taking
pub mod Answers
pub mod Rows
