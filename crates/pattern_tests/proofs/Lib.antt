mod Assigning
pub mod Cutting
mod Constants
mod Measuring
mod Discriminating
