pub mod Gathered
pub mod Three
