pub mod Composing
pub mod RowBytes
pub mod Assembled
