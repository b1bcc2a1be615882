pub mod Masks
pub mod Bounds
pub mod Counts
pub mod Tests
pub mod Operators
