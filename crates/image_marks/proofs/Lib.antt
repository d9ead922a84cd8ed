pub mod Fresh
pub mod Walk
pub mod Uses
pub mod Adts
mod Defaults
