pub mod Standing
pub mod Places
pub mod Grows
pub mod Operands
pub mod Limits
pub mod Bytes
