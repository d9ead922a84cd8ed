mod Walked
mod Given
mod Visited
pub mod Bodies
pub mod Runs
pub mod Ended
pub mod Refusals
pub mod Restored
pub mod Params
pub mod Acceptances
pub mod Naming
pub mod Scopes
