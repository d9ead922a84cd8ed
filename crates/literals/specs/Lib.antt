pub mod Results
pub mod Literals
