pub mod Results
pub mod Parsing
