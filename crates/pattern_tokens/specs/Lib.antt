pub mod Literals
pub mod Tokens
