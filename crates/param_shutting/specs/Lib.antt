pub mod Shutting
