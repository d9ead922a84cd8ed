pub mod Discriminants
