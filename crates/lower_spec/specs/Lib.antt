pub mod Results
pub mod Temps
pub mod Merging
pub mod Recorded
pub mod Replies
pub mod Promises
