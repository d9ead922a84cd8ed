pub mod Unreached
