pub mod Results
pub mod Types
