pub mod Holding
pub mod Going
pub mod Building
pub mod Stepping
pub mod Passing
pub mod Typed
pub mod Rests
mod Testing
pub mod Arguments
pub mod Rows
pub mod Naming
pub mod Binding
mod Choosing
mod Inside
mod Leaves
pub mod Trees
mod Bounds
pub mod Tallies
mod Numbers
mod Within
pub mod Once
pub mod Ors
pub mod Whole
pub mod Visits
