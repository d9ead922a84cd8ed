pub mod Loops
mod BlockKinds
mod Defaults
pub mod RowWords
pub mod Checked
