pub mod Written
pub mod Reduced
pub mod Closing
pub mod Formed
