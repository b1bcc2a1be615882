pub mod Cases
pub mod Mistakes
