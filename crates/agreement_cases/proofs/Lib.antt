pub mod Worked
pub mod Decided
mod Mistakes
