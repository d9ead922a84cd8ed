pub mod Forms
pub mod Ellipses
