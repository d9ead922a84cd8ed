pub mod Chars
pub mod Rests
pub mod Forms
pub mod Lengths
pub mod Ellipses
