pub mod Results
pub mod Dropping
pub mod Promises
