mod Telling
mod Recording
mod Building
mod Spending
mod Testing
mod Rows
mod Shaping
mod Leafing
mod Filling
mod Choosing
mod Trees
pub mod Rooms
