pub mod Looking
pub mod Declaring
