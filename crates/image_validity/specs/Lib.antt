pub mod Standing
pub mod Validity
