pub mod Results
pub mod Bytes
pub mod Scalars
pub mod Gaps
