pub mod Views
pub mod Growing
