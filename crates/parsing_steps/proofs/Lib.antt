pub mod Passing
pub mod Lasting
pub mod LastItems
pub mod Enders
pub mod Bridging
