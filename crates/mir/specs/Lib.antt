pub mod Results
pub mod Blocks
pub mod Locals
pub mod Scopes
pub mod Statements
pub mod Rvalues
