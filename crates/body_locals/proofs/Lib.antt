mod Holding
mod Bound
