pub mod Results
pub mod Names
