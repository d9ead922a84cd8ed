pub mod Modes
pub mod Walking
pub mod Tests
pub mod Variants
pub mod Slices
pub mod Patterns
