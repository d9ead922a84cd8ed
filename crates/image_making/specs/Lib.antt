pub mod Results
pub mod Images
