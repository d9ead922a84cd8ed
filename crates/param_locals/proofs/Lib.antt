mod Looking
pub mod Opening
pub mod Making
mod Plain
mod Picking
