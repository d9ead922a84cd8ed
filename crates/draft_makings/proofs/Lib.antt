pub mod RowKinds
pub mod Ways
