pub mod Lists
pub mod Emits
pub mod Brings
pub mod Trees
