pub mod TokenRows
