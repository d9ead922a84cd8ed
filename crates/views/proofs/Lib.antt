pub mod ReadBack
pub mod Building
