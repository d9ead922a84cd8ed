pub mod Filling
pub mod Through
pub mod Numbers
pub mod Bodies
pub mod Samples
