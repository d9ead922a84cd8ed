pub mod Results
pub mod Params
pub mod Calls
