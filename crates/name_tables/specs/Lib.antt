pub mod Results
pub mod Names
pub mod Tested
