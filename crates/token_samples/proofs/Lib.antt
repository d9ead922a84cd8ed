pub mod Tokens
pub mod Marks
pub mod Literals
