pub mod Results
pub mod Started
pub mod Sizes
