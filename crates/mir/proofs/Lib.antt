pub mod OpenBlocks
pub mod LocalTypes
pub mod RowParts
