pub mod Results
pub mod Named
pub mod Binds
