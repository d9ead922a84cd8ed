pub mod Results
pub mod Looks
