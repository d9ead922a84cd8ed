pub mod Firsts
pub mod Alike
