pub mod Returned
pub mod Totals
pub mod Through
pub mod Corner
