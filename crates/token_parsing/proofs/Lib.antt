pub mod Calming
pub mod Reading
