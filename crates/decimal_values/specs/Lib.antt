pub mod Results
pub mod Values
