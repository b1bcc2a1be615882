pub mod Trios
pub mod Listeners
