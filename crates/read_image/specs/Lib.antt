pub mod Results
pub mod Read
pub mod Parts
