pub mod Largest
pub mod Plans
