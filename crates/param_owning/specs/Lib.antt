pub mod Results
pub mod Owning
