pub mod Started
pub mod Call
pub mod Judged
pub mod Entries
