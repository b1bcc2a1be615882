pub mod Eithers
pub mod Lines
pub mod Makings
