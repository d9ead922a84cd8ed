pub mod Encoding
pub mod Settling
pub mod Agreeing
pub mod Behind
pub mod Rests
pub mod Simulation
pub mod Answering
