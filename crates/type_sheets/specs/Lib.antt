pub mod Results
pub mod Sheets
pub mod Reading
