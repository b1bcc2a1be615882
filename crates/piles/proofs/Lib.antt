pub mod Composed
pub mod NoFloors
pub mod Standing
pub mod Alike
