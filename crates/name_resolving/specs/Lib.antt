pub mod Results
pub mod Gives
