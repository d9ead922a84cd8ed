pub mod Elements
pub mod Room
