pub mod First
pub mod Told
pub mod Called
pub mod Texts
