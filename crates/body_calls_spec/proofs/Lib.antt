pub mod Clearing
pub mod Restoring
pub mod Prologue
pub mod Replying
