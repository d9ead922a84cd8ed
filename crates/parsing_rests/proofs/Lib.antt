pub mod Items
pub mod Opens
