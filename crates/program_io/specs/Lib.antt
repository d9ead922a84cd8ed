pub mod Results
pub mod Inputs
