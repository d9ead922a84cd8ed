pub mod Plain
mod Binding
