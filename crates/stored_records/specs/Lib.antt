pub mod Results
pub mod Entries
