pub mod Sizes
pub mod Gains
pub mod Parts
pub mod Tokens
pub mod Lasts
