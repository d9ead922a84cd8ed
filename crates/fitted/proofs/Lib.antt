mod Stopping
pub mod Building
pub mod Walks
mod Testing
mod Choosing
mod Shaping
pub mod Refusing
