pub mod Unopened
pub mod Results
pub mod Calls
pub mod Answers
pub mod Sizes
