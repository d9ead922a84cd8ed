mod Making
pub mod Departing
